-- Equal fractions round alike: a common factor leaves the quotient as it is and multiplies the rest and the divisor, so the rest keeps
-- its class. Assumes nothing.
use mathlib.Core.Path.{◌≡◌, ◌∙◌, ap}
use mathlib.Core.Bool.{Bool}
use Prim.Native.Nat.{ℕ, ◌*◌, ◌%◌, ◌<◌}
use native.Mathlib.Decide.{ℕ_discrete}
use native.Mathlib.Nat.{div-add-mod', mul-div-mul_right, mul-lt-mul_of_pos_right, mul-pos}
use native.Mathlib.Omega.{arith}
use borrow.Author.Tests.{eq-eqb}
use lib.IntN.{ℤ, pos, ◌*ℤ◌}
use Rattle.whole.specs.Whole.{negative, magnitude_of, signed_of}
use Rattle.rounding.specs.declared.Rule.{Rule}
use Rattle.rounding.specs.declared.Rest.{Rest}
use Rattle.rounding.specs.declared.Rest.TheVariants.{Exact, Below, Half, Above}
use Rattle.rounding.specs.Leaf.{rest_of, rounded, rounded_magnitude}
use Rattle.rounding.proofs.Bounds.{at_divisor}
use Rattle.rounding.proofs.Threshold.{Says, class_is, class_says}
use Rattle.rounding.proofs.Value.{by_magnitude}

module _ (f : ℕ) (h : 0 < f) where
  says_scaled : (x : Rest) (r d : ℕ) → Says x r d → Says x (r * f) (d * f)
  says_scaled Exact r d s = rw s (omega arith)
  says_scaled Below r d s = (mul-pos s.0 h, omega (arith, mul-lt-mul_of_pos_right s.1 h))
  says_scaled Half r d s = (mul-pos s.0 h, omega (arith, ap (λ (x : ℕ). x * f) s.1))
  says_scaled Above r d s = (mul-pos s.0 h, omega (arith, mul-lt-mul_of_pos_right s.1 h))

  pub class_scaled : (r d : ℕ) → rest_of (r * f) (d * f) ≡ rest_of r d
  class_scaled r d = class_is (rest_of r d) (r * f) (d * f) (says_scaled (rest_of r d) r d (class_says r d))

  pub rest_scaled : (n d : ℕ) → n * f % (d * f) ≡ n % d * f
  rest_scaled n d =
      omega (arith, div-add-mod' (n * f) (d * f), ap (λ (q : ℕ). q * (d * f)) (mul-div-mul_right n d h), ap (λ (x : ℕ). x * f) (div-add-mod' n d))

  pub fractions_magnitude : (rule : Rule) (negative : Bool) (n d : ℕ) → rounded_magnitude rule negative (n * f) (d * f) ≡ rounded_magnitude rule negative n d
  unfolding rounded_magnitude
  fractions_magnitude rule negative n d = at (ℕ_discrete d 0)
    where
      at : Dec (d ≡ 0) → rounded_magnitude rule negative (n * f) (d * f) ≡ rounded_magnitude rule negative n d
      at (yes e) = rw (eq-eqb (d * f) 0 (omega (arith, ap (λ (x : ℕ). x * f) e)), eq-eqb d 0 e)
      at (no some) =
          rw (at_divisor rule negative (n * f) (d * f) (mul-pos (omega arith) h), at_divisor rule negative n d (omega arith))
          (rw (mul-div-mul_right n d h, rest_scaled n d, class_scaled (n % d) d))

  pub fractions : (rule : Rule) (n : ℤ) (d : ℕ) → rounded rule (n *ℤ pos f) (d * f) ≡ rounded rule n d
  unfolding rounded
  fractions rule n d =
      by_magnitude rule n f (d * f) ∙ ap (signed_of (negative n)) (fractions_magnitude rule (negative n) (magnitude_of n) d)
