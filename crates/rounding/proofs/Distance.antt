-- Every rule's answer is less than one unit from n / d, being the quotient of the division or, where there is a rest, one more.
-- Assumes nothing.
use mathlib.Core.Path.{◌≡◌, refl}
use mathlib.Core.Bool.{Bool}
use mathlib.Core.Logic.{◌⊎◌, inl, inr}
use Prim.Native.Nat.{ℕ, ◌+◌, ◌*◌, ◌/◌, ◌%◌, ◌<◌}
use native.Mathlib.Nat.{div-add-mod', mod-lt}
use native.Mathlib.Omega.{arith}
use lib.IntN.{ℤ, pos, ◌*ℤ◌}
use Rattle.whole.specs.Whole.{negative, magnitude_of}
use Rattle.rounding.specs.declared.Rule.{Rule}
use Rattle.rounding.specs.Leaf.{is_odd, rounded, rounded_magnitude}
use Rattle.rounding.proofs.Apart.{distance, apart_multiple}
use Rattle.rounding.proofs.Threshold.{threshold_some, by_threshold}

module _ (rule : Rule) (negative : Bool) (n d : ℕ) (h : 0 < d) where
  pub one_of_two : (rounded_magnitude rule negative n d ≡ n / d) ⊎ (rounded_magnitude rule negative n d ≡ n / d + 1)
  one_of_two =
      by_threshold rule negative n d h (λ (x : ℕ). (x ≡ n / d) ⊎ (x ≡ n / d + 1)) (λ reached. inr refl) (λ short. inl refl)

  pub within_one :
      (n < (rounded_magnitude rule negative n d + 1) * d) × (rounded_magnitude rule negative n d * d < n + d)
  within_one =
      let parts : n / d * d + n % d ≡ n = div-add-mod' n d in
      let rest : n % d < d = mod-lt n h in
      by_threshold rule negative n d h (λ (x : ℕ). (n < (x + 1) * d) × (x * d < n + d))
      (λ reached. omega (arith, threshold_some rule negative (is_odd (n / d)) d h))
      (λ short. omega arith)

pub distance_below_one : (rule : Rule) (n : ℤ) (d : ℕ) → 0 < d → distance n (rounded rule n d *ℤ pos d) < d
unfolding rounded
distance_below_one rule n d h =
    rw (apart_multiple n (rounded_magnitude rule (negative n) (magnitude_of n) d) d)
    (omega (arith, within_one rule (negative n) (magnitude_of n) d h))
