-- The interest has the principal's sign or is 0: its magnitude is rounded, and the sign is put on. Assumes nothing.
use mathlib.Core.Path.{◌≡◌}
use mathlib.Core.Bool.{Bool}
use mathlib.Core.Logic.{◌⊎◌, inl, inr}
use Prim.Native.Nat.{ℕ, zero, suc, ◌*◌}
use native.Mathlib.Omega.{arith}
use lib.IntN.{ℤ, pos}
use Rattle.whole.specs.Whole.{negative, magnitude_of, signed_of}
use Rattle.whole.proofs.Laws.{negative_signed, signed_zero_lem}
use Rattle.rounding.specs.declared.Rule.{Rule}
use Rattle.rounding.specs.Leaf.{rounded_magnitude}
use Rattle.calendar.specs.declared.Date.{Date}
use Rattle.calendar.specs.DayCount.{basis_of}
use Rattle.interest.specs.Interest.{interest_of}
use Rattle.interest.specs.Accrual.{accrued_to}
use Rattle.interest.proofs.Accrued.{by_parts}

sign_put_on : (sign : Bool) (m : ℕ) → (signed_of sign m ≡ pos 0) ⊎ (negative (signed_of sign m) ≡ sign)
sign_put_on sign zero = inl (signed_zero_lem sign)
sign_put_on sign (suc m) = inr (negative_signed sign (suc m) (omega arith))

pub interest_sign : (rule : Rule) (n : ℤ) (rate basis : ℕ) (start end : Date)
    → (interest_of rule n rate basis start end ≡ pos 0) ⊎ (negative (interest_of rule n rate basis start end) ≡ negative n)
unfolding accrued_to
interest_sign rule n rate basis start end =
    rw (by_parts rule n rate basis start end)
    (sign_put_on (negative n)
    (rounded_magnitude rule (negative n) (magnitude_of n * (rate * (basis_of basis).count start end)) (10000 * (basis_of basis).year)))
