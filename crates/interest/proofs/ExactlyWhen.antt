-- An interest is refused with a number exactly when a row of it holds and none before it does: the rows at what the call takes, and row 13
-- at what it makes, rise. Assumes nothing.
use mathlib.Core.Path.{◌≡◌, sym}
use mathlib.Core.List.{List, ◌∷◌, ◌++◌}
use Prim.Native.Nat.{ℕ}
use Rattle.refusal.specs.declared.Refusal.TheVariants.{Mode}
use Rattle.refusal.specs.Rows.{gives, Row, row, first_row}
use Rattle.refusal.proofs.Check.{behind}
use Rattle.whole.specs.Whole.{magnitude_of}
use Rattle.rounding.specs.Modes.{bad_mode, rule_of}
use Rattle.amount.specs.declared.Amount.{Amount}
use Rattle.amount.proofs.ExactlyWhen.{ExactlyWhen, by_its_rows, limit_row}
use Rattle.calendar.specs.declared.Date.{Date}
use Rattle.calendar.specs.DaysSaid.{days_rows}
use Rattle.interest.specs.Interest.{interest_rows, interest_of, interest_said}

module _ (a : Amount) (rate basis : ℕ) (start end : Date) (mode : ℕ) where
  -- the interest as an amount
  abbrev pub made : Amount
  made = record { currency = a.currency; scale = a.scale; coefficient = interest_of (rule_of mode) a.coefficient rate basis start end }

  -- the rows at what the call takes, and row 13 at what it makes
  abbrev pub rows_taken : List Row
  rows_taken = row Mode (bad_mode mode) ∷ interest_rows a.scale (magnitude_of a.coefficient) a.currency rate basis start end

  abbrev pub all_rows : List Row
  all_rows = rows_taken ++ limit_row made.coefficient

  -- what the promise says is the first of these rows that holds, else the interest
  pub interest_by_rows : interest_said a rate basis start end mode ≡ first_row all_rows (gives made)
  unfolding interest_said
  interest_by_rows = sym (behind (gives made) rows_taken (limit_row made.coefficient))

  pub interest_exactly_when : ExactlyWhen (interest_said a rate basis start end mode) all_rows
  unfolding interest_rows days_rows
  interest_exactly_when = by_its_rows (record { by_rows = interest_by_rows; rises = tt })
