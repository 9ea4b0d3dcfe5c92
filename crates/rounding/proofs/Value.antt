-- The rounded number by sign and magnitude, as a program computes it.
-- Assumes nothing.
use mathlib.Core.Path.{◌≡◌, refl}
use mathlib.Core.Bool.{Bool, true, false}
use Prim.Native.Nat.{ℕ, zero, suc, ◌*◌}
use native.Mathlib.Omega.{arith}
use lib.IntN.{ℤ, pos, negsuc, neg_ℤ, ◌*ℤ◌}
use Rattle.whole.specs.Whole.{negative, magnitude_of, signed_of}
use Rattle.rounding.specs.declared.Rule.{Rule}
use Rattle.rounding.specs.Leaf.{rounded, rounded_magnitude}
use Rattle.rounding.proofs.Bounds.{at_most}

-- 0 is 0 under every rule
pub zero_rounds : (rule : Rule) (sign : Bool) (d : ℕ) → rounded_magnitude rule sign 0 d ≡ 0
zero_rounds rule sign d = omega (arith, at_most rule sign 0 d)

-- a product with a number that isn't negative keeps the sign, and its magnitude is the magnitudes' product
pub by_magnitude : (rule : Rule) (n : ℤ) (f d : ℕ)
    → rounded rule (n *ℤ pos f) d ≡ signed_of (negative n) (rounded_magnitude rule (negative n) (magnitude_of n * f) d)
unfolding rounded
by_magnitude rule (pos n) f d = refl
by_magnitude rule (negsuc n) f d = at (suc n * f)
  where
    at : (m : ℕ)
        → signed_of (negative (neg_ℤ (pos m))) (rounded_magnitude rule (negative (neg_ℤ (pos m))) (magnitude_of (neg_ℤ (pos m))) d)
        ≡ signed_of true (rounded_magnitude rule true m d)
    at zero = rw (zero_rounds rule false d, zero_rounds rule true d)
    at (suc m) = refl
