-- The lent list after a table is given: the row after n periods stands at place n, and places past the rows stay. Assumes nothing.
use mathlib.Core.Path.{◌≡◌, ◌∙◌, ap}
use mathlib.Core.List.{List}
use Prim.Native.Nat.{ℕ, ◌≤◌, ◌<◌}
use native.Mathlib.Omega.{arith}
use lib.IntN.{ℤ, pos}
use lib.ListN.{length, get_or}
use Rattle.refusal.specs.Rows.{gives}
use Rattle.whole.specs.Lists.{filled}
use Rattle.whole.proofs.Lists.{filled_inside, filled_behind}
use Rattle.balances.specs.Rule.{balance_at}
use Rattle.compound.specs.Table.{row_count, list_after}

module _ (principal rate periods : ℕ) (out : List ℤ) where
  abbrev rows : ℕ → ℤ
  rows n = pos (balance_at principal rate n)

  pub row_at_place : (n : ℕ) → n ≤ periods → row_count periods ≤ length out
      → get_or (list_after principal rate (gives (row_count periods)) out) n (pos 0) ≡ pos (balance_at principal rate n)
  unfolding list_after
  row_at_place n h room =
      ap (λ (i : ℕ). get_or (filled 0 rows (row_count periods) out) i (pos 0)) (omega arith)
      ∙ filled_inside 0 rows out (pos 0) (row_count periods) n (omega arith) (omega arith)

  pub past_the_rows : (i : ℕ) → periods < i → get_or (list_after principal rate (gives (row_count periods)) out) i (pos 0) ≡ get_or out i (pos 0)
  unfolding list_after
  past_the_rows i h = filled_behind 0 rows out (pos 0) (row_count periods) i (omega arith)
