-- "both zeros give 0". Assumes nothing.
use mathlib.Core.Path.{◌≡◌, refl, ◌∙◌, ap}
use mathlib.Core.Bool.{Bool, true, false}
use Prim.Native.Nat.{ℕ, ◌^◌}
use lib.IntN.{pos}
use lib.Ieee.{fin, binary64, odd, of_bits, of_fields}
use Rattle.whole.specs.Whole.{signed_of}
use Rattle.whole.proofs.Laws.{signed_zero_lem}
use Rattle.rounding.specs.declared.Rule.{Rule}
use Rattle.rounding.specs.Leaf.{rounded_magnitude}
use Rattle.rounding.proofs.Value.{zero_rounds}
use Rattle.doubles.specs.Doubles.{coefficient_of}
use Rattle.doubles.proofs.Worth.{by_worth}
use native.Mathlib.Nat.{zero-mul}
use native.Mathlib.Omega.{arith}

-- 0.0 and -0.0 by their bits
pub zero_bits : of_bits binary64 0 ≡ fin false 0 (pos 0)
unfolding odd of_fields of_bits
zero_bits = refl

pub minus_zero_bits : of_bits binary64 (2 ^ 63) ≡ fin true 0 (pos 0)
unfolding odd of_fields of_bits
minus_zero_bits = refl

pub both_zeros : (rule : Rule) (scale : ℕ) (sign : Bool) → coefficient_of rule scale (fin sign 0 (pos 0)) ≡ pos 0
both_zeros rule scale sign =
    by_worth rule scale (fin sign 0 (pos 0)) sign 0 1 (omega arith) (refl, refl)
    ∙ ap (λ (n : ℕ). signed_of sign (rounded_magnitude rule sign n 1)) (zero-mul (10 ^ scale))
    ∙ ap (signed_of sign) (zero_rounds rule sign 1)
    ∙ signed_zero_lem sign
