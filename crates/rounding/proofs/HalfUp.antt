-- HALF_UP is the quotient of a number that is greater by half the divisor, and it is the same for either sign. Assumes nothing.
use mathlib.Core.Path.{◌≡◌, refl}
use mathlib.Core.Bool.{Bool, false}
use Prim.Native.Nat.{ℕ, ◌+◌, ◌/◌, ◌%◌, ◌<◌, ◌≤◌}
use native.Mathlib.Nat.{div-add-mod', div-eq_of_lt-le, mod-lt}
use native.Mathlib.Omega.{arith}
use Rattle.rounding.specs.declared.Rule.TheVariants.{HalfUp}
use Rattle.rounding.specs.Leaf.{rounded_magnitude}
use Rattle.rounding.specs.Product.{rounded_product}
use Rattle.rounding.proofs.Threshold.{by_threshold}

pub half_added : (n d : ℕ) → 0 < d → (n + d / 2) / d ≡ rounded_magnitude HalfUp false n d
half_added n d some = by_threshold HalfUp false n d some (λ (x : ℕ). (n + d / 2) / d ≡ x) rises stays
  where
    odd : d % 2 < 2
    odd = mod-lt d (omega arith)

    rises : d ≤ n % d + n % d → (n + d / 2) / d ≡ n / d + 1
    rises reached =
        div-eq_of_lt-le d (omega (arith, div-add-mod' n d, div-add-mod' d 2, odd))
        (omega (arith, div-add-mod' n d, div-add-mod' d 2, mod-lt n some))

    stays : n % d + n % d < d → (n + d / 2) / d ≡ n / d
    stays short = div-eq_of_lt-le d (omega (arith, div-add-mod' n d)) (omega (arith, div-add-mod' n d, div-add-mod' d 2))

-- the rule asks for no sign
pub either_sign : (negative : Bool) (a b d : ℕ) → rounded_product HalfUp false a b d ≡ rounded_product HalfUp negative a b d
unfolding rounded_magnitude rounded_product
either_sign negative a b d = refl
