-- The quotient and the remainder of m x W by w without a division at each m: from one m to the next both grow by those of W by w, and the
-- remainder carries into the quotient at w. Assumes nothing.
use mathlib.Core.Path.{◌≡◌}
use Prim.Native.Nat.{ℕ, ◌+◌, ◌-◌, ◌*◌, ◌/◌, ◌%◌, ◌≤◌, ◌<◌}
use native.Mathlib.Nat.{div-eq_of_lt-le, div-add-mod', mod-lt}
use native.Mathlib.Omega.{arith}
use Rattle.units.specs.Calendar.{Divided}

-- by a division
pub divide : (x w : ℕ) → 1 ≤ w → Divided x w (x / w) (x % w)
divide x w some = record { whole = div-add-mod' x w; small = mod-lt x some }

-- q and r are a division's
pub quotient : (x w q r : ℕ) → Divided x w q r → x / w ≡ q
quotient x w q r d = div-eq_of_lt-le w (omega (arith, d.whole)) (omega (arith, d.whole, d.small))

module _ (W w m q r : ℕ) (d : Divided (m * W) w q r) where
  -- the next m, with no carry
  pub divide_next : r + W % w < w → Divided ((m + 1) * W) w (q + W / w) (r + W % w)
  divide_next h = record { whole = omega (arith, d.whole, div-add-mod' W w); small = h }

  -- the next m, with a carry
  pub divide_carry : w ≤ r + W % w → Divided ((m + 1) * W) w (q + W / w + 1) (r + W % w - w)
  divide_carry h =
      let p : W % w < w = mod-lt W (omega (arith, d.small)) in
      record { whole = omega (arith, d.whole, div-add-mod' W w); small = omega (arith, d.small) }
