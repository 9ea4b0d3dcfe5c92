-- CEILING is the least integer not below n / d: its magnitude is UP's from 0 on and DOWN's below, and no answer passes an integer.
-- Assumes nothing.
use mathlib.Core.Bool.{true, false}
use Prim.Native.Nat.{ℕ, suc, ◌<◌}
use lib.IntN.{ℤ, pos, negsuc, ◌*ℤ◌}
use lib.Signed.{◌≤ℤ◌}
use Rattle.rounding.specs.declared.Rule.TheVariants.{Ceiling}
use Rattle.rounding.specs.Leaf.{rounded, rounded_magnitude}
use Rattle.rounding.proofs.Between.{from_above}
use Rattle.rounding.proofs.Order.{signed_order, signed_times}
use Rattle.rounding.proofs.UpDown.{ceiling_magnitude, down_at_most, up_at_least}

pub ceiling_not_below : (n : ℤ) (d : ℕ) → 0 < d → n ≤ℤ (rounded Ceiling n d *ℤ pos d)
unfolding rounded
ceiling_not_below (pos n) d h = rw (ceiling_magnitude false n d) (signed_order false n _ (up_at_least false n d h))
ceiling_not_below (negsuc n) d h =
    rw (signed_times true (rounded_magnitude Ceiling true (suc n) d) d, ceiling_magnitude true (suc n) d)
    (signed_order true (suc n) _ (down_at_most true (suc n) d h))

pub ceiling_least : (n : ℤ) (d : ℕ) → 0 < d → (k : ℤ) → n ≤ℤ (k *ℤ pos d) → rounded Ceiling n d ≤ℤ k
ceiling_least n d h k above = from_above Ceiling n d h k above
