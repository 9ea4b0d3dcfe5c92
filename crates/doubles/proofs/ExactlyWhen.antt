-- The answer of a call is that of all its rows in the order in which they are asked, so the law of refusals holds of it. Assumes nothing.
use mathlib.Core.Path.{◌≡◌, sym}
use mathlib.Core.List.{List, ◌++◌}
use mathlib.Core.Logic.{◌↔◌}
use Prim.Native.Nat.{ℕ}
use lib.Dec.{T}
use Rattle.refusal.specs.Rows.{gives, refuses, Row, first_row, rising, Holds}
use Rattle.refusal.proofs.Check.{behind}
use Rattle.refusal.proofs.ExactlyWhen.{Given, NoneBelow, exactly_when}
use Rattle.whole.specs.Whole.{magnitude_of}
use Rattle.rounding.specs.Modes.{rule_of}
use Rattle.currency.specs.declared.Currency.{Currency}
use Rattle.amount.specs.declared.Amount.{Amount}
use Rattle.doubles.specs.declared.Row.{Row as Columns}
use Rattle.doubles.specs.Doubles.{given_rows, column_rows, made_rows, amounts_of, taken_rows, taken_said}
use Rattle.doubles.specs.Export.{exported, export_rows, export_said}

module _ (given : Columns) (currency : Currency) (scale mode : ℕ) where
  abbrev rows : List Row
  rows = taken_rows currency scale mode ++ made_rows (rule_of mode) scale given.net given.tax

  pub by_rows : taken_said given currency scale mode ≡ first_row rows (gives (amounts_of (rule_of mode) currency scale given.net given.tax))
  unfolding taken_said
  by_rows =
      sym
      (behind (gives (amounts_of (rule_of mode) currency scale given.net given.tax)) (taken_rows currency scale mode)
      (made_rows (rule_of mode) scale given.net given.tax))

  rises : T (rising rows)
  unfolding given_rows column_rows
  rises = tt

  -- "If either column is refused, the row is, with the lower number"; 16 "given only where no lower number applies"
  pub take_row_exactly_when : (n : ℕ) → ((blamed : ℕ) × (taken_said given currency scale mode ≡ refuses n blamed)) ↔ (Holds n rows × NoneBelow n rows)
  unfolding Given
  take_row_exactly_when n = rw by_rows (exactly_when (amounts_of (rule_of mode) currency scale given.net given.tax) n rows rises)

module _ (a : Amount) where
  abbrev rows_of : List Row
  rows_of = export_rows a.scale (magnitude_of a.coefficient) a.currency

  pub export_exactly_when : (n : ℕ) → ((blamed : ℕ) × (export_said a ≡ refuses n blamed)) ↔ (Holds n rows_of × NoneBelow n rows_of)
  unfolding Given export_said export_rows
  export_exactly_when n = exactly_when (exported a.coefficient a.scale) n rows_of tt
