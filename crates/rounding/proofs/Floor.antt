-- FLOOR is the greatest integer not above n / d: its magnitude is DOWN's from 0 on and UP's below, and no answer passes an integer.
-- Assumes nothing.
use mathlib.Core.Bool.{true, false}
use Prim.Native.Nat.{ℕ, suc, ◌<◌}
use lib.IntN.{ℤ, pos, negsuc, ◌*ℤ◌}
use lib.Signed.{◌≤ℤ◌}
use Rattle.rounding.specs.declared.Rule.TheVariants.{Floor}
use Rattle.rounding.specs.Leaf.{rounded, rounded_magnitude}
use Rattle.rounding.proofs.Between.{from_below}
use Rattle.rounding.proofs.Order.{signed_order, signed_times}
use Rattle.rounding.proofs.UpDown.{floor_magnitude, down_at_most, up_at_least}

pub floor_not_above : (n : ℤ) (d : ℕ) → 0 < d → (rounded Floor n d *ℤ pos d) ≤ℤ n
unfolding rounded
floor_not_above (pos n) d h = rw (floor_magnitude false n d) (signed_order false _ n (down_at_most false n d h))
floor_not_above (negsuc n) d h =
    rw (signed_times true (rounded_magnitude Floor true (suc n) d) d, floor_magnitude true (suc n) d)
    (signed_order true _ (suc n) (up_at_least true (suc n) d h))

pub floor_greatest : (n : ℤ) (d : ℕ) → 0 < d → (k : ℤ) → (k *ℤ pos d) ≤ℤ n → k ≤ℤ rounded Floor n d
floor_greatest n d h k below = from_below Floor n d h k below
