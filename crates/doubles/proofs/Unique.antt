-- An answer is known by what it says, so two answers that a promise allows for the same arguments are equal. Assumes nothing.
use Rattle.std.specs.Prelude.{Result, Float}
use mathlib.Core.Path.{◌≡◌}
use Prim.Native.Nat.{ℕ}
use Rattle.refusal.specs.declared.Refusal.{Refusal}
use Rattle.refusal.specs.Rows.{means}
use Rattle.refusal.proofs.OneToOne.{one_said}
use Rattle.currency.specs.declared.Currency.{Currency}
use Rattle.amount.specs.declared.Amount.{Amount}
use Rattle.doubles.specs.declared.Row.{Row}
use Rattle.doubles.specs.declared.Amounts.{Amounts}
use Rattle.doubles.specs.Doubles.{taken_said}
use Rattle.doubles.specs.Export.{export_said}

pub one_take_row : (given : Row) (currency : Currency) (scale mode : ℕ) (r s : Result Amounts Refusal)
    → means r ≡ taken_said given currency scale mode → means s ≡ taken_said given currency scale mode → r ≡ s
one_take_row given currency scale mode r s = one_said r s (taken_said given currency scale mode)

pub one_export : (a : Amount) (r s : Result Float Refusal) → means r ≡ export_said a → means s ≡ export_said a → r ≡ s
one_export a r s = one_said r s (export_said a)
