-- The promises of `convert` and `convert_by` leave one answer: two answers that it allows for the same arguments are equal, since what an answer means tells
-- it from every other. Assumes nothing.
use Rattle.std.specs.Prelude.{Result}
use Rattle.refusal.specs.Rows.{means}
use mathlib.Core.Path.{◌≡◌}
use Prim.Native.Nat.{ℕ}
use Rattle.currency.specs.declared.Currency.{Currency}
use Rattle.amount.specs.declared.Amount.{Amount}
use Rattle.refusal.proofs.OneToOne.{one_said}
use Rattle.refusal.specs.declared.Refusal.{Refusal}
use Rattle.euro.specs.Conversion.{convert_by_said, convert_said}

pub one_convert_by : (r s : Result Amount Refusal) (a : Amount) (to : Currency) (decimals : ℕ)
    → means r ≡ convert_by_said a to decimals → means s ≡ convert_by_said a to decimals → r ≡ s
one_convert_by r s a to decimals = one_said r s (convert_by_said a to decimals)

pub one_convert : (r s : Result Amount Refusal) (a : Amount) (to : Currency) → means r ≡ convert_said a to → means s ≡ convert_said a to → r ≡ s
one_convert r s a to = one_said r s (convert_said a to)
