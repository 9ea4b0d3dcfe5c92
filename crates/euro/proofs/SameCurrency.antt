-- An amount that passes the check is unchanged in its own currency, whatever the decimals of the step. Assumes nothing.
use Rattle.std.specs.Prelude.{Ok}
use mathlib.Core.Path.{◌≡◌, refl, ◌∙◌}
use borrow.Author.Tests.{eq-eqb}
use Prim.Native.Nat.{ℕ}
use Rattle.refusal.specs.Rows.{gives, check_of}
use Rattle.refusal.proofs.Check.{passed}
use Rattle.whole.specs.Whole.{magnitude_of}
use Rattle.amount.specs.declared.Amount.{Amount}
use Rattle.euro.specs.Conversion.{convert_rows, converted, convert_by_said}

pub same_currency : (a : Amount) (decimals : ℕ)
    → check_of (convert_rows decimals a.scale (magnitude_of a.coefficient) a.currency a.currency) ≡ Ok tt
    → convert_by_said a a.currency decimals ≡ gives a
unfolding convert_by_said converted
same_currency a decimals e =
    passed (converted decimals a a.currency) (convert_rows decimals a.scale (magnitude_of a.coefficient) a.currency a.currency) e
    ∙ rw (eq-eqb a.currency.0 a.currency.0 refl)
