-- DOWN is FLOOR for n at least 0, else CEILING; UP is the other way about. DOWN's magnitude is at most n / d and UP's at least: no rest
-- rises under the one, every rest does under the other. Assumes nothing.
use mathlib.Core.Path.{◌≡◌, refl}
use mathlib.Core.Bool.{Bool, true, false, cond}
use Prim.Native.Nat.{ℕ, ◌+◌, ◌*◌, ◌/◌, ◌%◌, ◌<◌, ◌≤◌}
use native.Mathlib.Nat.{div-add-mod', mod-lt}
use native.Mathlib.Omega.{arith}
use lib.Dec.{leb-zero}
use lib.IntN.{ℤ, pos, negsuc}
use lib.Signed.{le_z}
use Rattle.rounding.specs.declared.Rule.TheVariants.{Up, Down, Ceiling, Floor}
use Rattle.rounding.specs.Leaf.{rounded, rounded_magnitude}
use Rattle.rounding.proofs.Threshold.{by_threshold}

pub down_is : (n : ℤ) (d : ℕ) → rounded Down n d ≡ cond (le_z (pos 0) n) (rounded Floor n d) (rounded Ceiling n d)
unfolding rounded rounded_magnitude
down_is (pos n) d = rw (leb-zero n)
down_is (negsuc n) d = refl

pub up_is : (n : ℤ) (d : ℕ) → rounded Up n d ≡ cond (le_z (pos 0) n) (rounded Ceiling n d) (rounded Floor n d)
unfolding rounded rounded_magnitude
up_is (pos n) d = rw (leb-zero n)
up_is (negsuc n) d = refl

-- the same of one sign's magnitudes
pub floor_magnitude : (negative : Bool) (n d : ℕ) → rounded_magnitude Floor negative n d ≡ rounded_magnitude (cond negative Up Down) negative n d
unfolding rounded_magnitude
floor_magnitude true n d = refl
floor_magnitude false n d = refl

pub ceiling_magnitude : (negative : Bool) (n d : ℕ) → rounded_magnitude Ceiling negative n d ≡ rounded_magnitude (cond negative Down Up) negative n d
unfolding rounded_magnitude
ceiling_magnitude true n d = refl
ceiling_magnitude false n d = refl

module _ (negative : Bool) (n d : ℕ) (h : 0 < d) where
  pub down_at_most : rounded_magnitude Down negative n d * d ≤ n
  down_at_most =
      let parts : n / d * d + n % d ≡ n = div-add-mod' n d in
      let rest : n % d < d = mod-lt n h in
      by_threshold Down negative n d h (λ (x : ℕ). x * d ≤ n) (λ reached. omega arith) (λ short. omega arith)

  pub up_at_least : n ≤ rounded_magnitude Up negative n d * d
  up_at_least =
      let parts : n / d * d + n % d ≡ n = div-add-mod' n d in
      let rest : n % d < d = mod-lt n h in
      by_threshold Up negative n d h (λ (x : ℕ). n ≤ x * d) (λ reached. omega arith) (λ short. omega arith)
