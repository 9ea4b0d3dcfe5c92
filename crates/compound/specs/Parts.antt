-- What the functions below `compound` hand each other. No public promise cites it. Assumes nothing.
use Rattle.std.specs.Prelude.{◌≡◌, List, ℕ, ◌≤◌, ◌<◌, ℤ, length, get_or, Result, Ok, ⊤}
use Rattle.refusal.specs.Rows.{check_of, means_outcome}
use Rattle.whole.specs.Lists.{filled}
use Rattle.amount.specs.Amounts.{largest}
use Rattle.balances.specs.Rule.{balance_at}
use Rattle.refusal.specs.declared.Refusal.{Refusal}
use Rattle.compound.specs.Table.{made_rows, list_after}

-- a list of balances, each within L
abbrev pub Within : List ℕ → Type 0
Within rows = (i : ℕ) → i < length rows → get_or rows i 0 ≤ largest

-- the rows of a table in a list, unless one is over L
pub record Fills (principal rate : ℕ) (before : List ℕ) (r : Result ⊤ Refusal) (after : List ℕ) : Type 0 where
  pub said : r ≡ check_of (made_rows principal rate (length before))
  pub put : r ≡ Ok tt → after ≡ filled 0 (balance_at principal rate) (length before) before

-- so many rows in front of a list, unless one is over L
pub record Writes (principal rate count : ℕ) (before : List ℤ) (r : Result ⊤ Refusal) (after : List ℤ) : Type 0 where
  pub said : r ≡ check_of (made_rows principal rate count)
  pub put : after ≡ list_after principal rate (means_outcome r count) before
