-- A product of two signed factors by signs and magnitudes: it is below 0 where just one factor is, and its magnitude is the magnitudes' product.
-- Assumes nothing.
use mathlib.Core.Path.{◌≡◌, refl, sym, ◌∙◌, ap}
use mathlib.Core.Bool.{Bool, true, false, not, cond}
use Prim.Native.Nat.{ℕ, zero, suc, ◌*◌}
use native.Mathlib.Nat.{mul-one}
use lib.IntN.{ℤ, pos, negsuc, neg_ℤ, ◌*ℤ◌}
use Rattle.whole.specs.Whole.{negative, magnitude_of, signed_of}
use Rattle.whole.proofs.Laws.{signed_opposite}
use Rattle.rounding.specs.declared.Rule.{Rule}
use Rattle.rounding.specs.Leaf.{rounded, rounded_magnitude}
use Rattle.rounding.proofs.Value.{zero_rounds}

-- the sign of a product, from the signs of its factors
abbrev pub product_sign : Bool → Bool → Bool
product_sign a b = cond a (not b) b

pub product_is : (a b : ℤ) → a *ℤ b ≡ signed_of (product_sign (negative a) (negative b)) (magnitude_of a * magnitude_of b)
product_is (pos a) (pos b) = refl
product_is (pos a) (negsuc b) = sym (signed_opposite false (a * suc b))
product_is (negsuc a) (pos b) = sym (signed_opposite false (suc a * b))
product_is (negsuc a) (negsuc b) = refl

-- a sign and a magnitude round by the magnitude
pub signed_rounds : (rule : Rule) (sign : Bool) (m d : ℕ) → rounded rule (signed_of sign m) d ≡ signed_of sign (rounded_magnitude rule sign m d)
unfolding rounded
signed_rounds rule false m d = refl
signed_rounds rule true zero d = rw (zero_rounds rule false d, zero_rounds rule true d)
signed_rounds rule true (suc m) d = refl

pub by_factors : (rule : Rule) (a b : ℤ) (d : ℕ)
    → let sign = product_sign (negative a) (negative b) in
    rounded rule (a *ℤ b) d ≡ signed_of sign (rounded_magnitude rule sign (magnitude_of a * magnitude_of b) d)
by_factors rule a b d =
    let sign = product_sign (negative a) (negative b) in
    ap (λ (z : ℤ). rounded rule z d) (product_is a b) ∙ signed_rounds rule sign (magnitude_of a * magnitude_of b) d

-- the factor 1 changes nothing
pub factor_one : (a : ℤ) → a *ℤ pos 1 ≡ a
factor_one (pos n) = ap pos (mul-one n)
factor_one (negsuc n) = ap (λ (m : ℕ). neg_ℤ (pos m)) (mul-one (suc n))
