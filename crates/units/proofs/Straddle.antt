-- What the shares of n say of a single unit: the unit that a place takes after a units is due by n exactly where a is below its share
-- rounded down, and may be taken by unit t exactly where a is below t x w / W rounded up. Up to unit n nobody is more than one above
-- its share of n rounded down, because no total is above its share rounded up. Assumes nothing.
use mathlib.Core.Path.{◌≡◌, refl}
use mathlib.Core.Bool.{true, false}
use mathlib.Core.Logic.{◌↔◌}
use mathlib.Core.List.{List}
use Prim.Native.Nat.{ℕ, zero, suc, ◌+◌, ◌-◌, ◌*◌, ◌/◌, ◌≤◌, ◌<◌, zero-le}
use native.Mathlib.Nat.{le-div_iff_mul-le, div-lt_iff_lt-mul, lt-div-mul-add, lt_of_mul-lt-mul_right, mul-le-mul_right}
use native.Mathlib.Omega.{arith}
use lib.ListN.{get_or}
use borrow.Author.Tests.{lt-ltb}
use Rattle.units.specs.Rule.{sum_of, may_take, due, totals}
use Rattle.units.specs.Window.{lo, reach, ahead_at}
use Rattle.units.proofs.Due.{may_below, may_not, due_by_lem, by_due}
use Rattle.units.proofs.Added.{never_fall}
use Rattle.units.proofs.Ceiling.{below_ceiling, ceiling}
use Rattle.units.proofs.Floor.{floor}

module _ (W w a n : ℕ) (some : 1 ≤ W) (weighs : 1 ≤ w) where
  -- unit number a + 1 of a place is due by n exactly where a + 1 is at most its share rounded down
  pub due_full : (due W w a ≤ n) ↔ (a + 1 ≤ n * w / W)
  due_full = (λ h. (le-div_iff_mul-le some).1 (due_by_lem W w a n weighs h), λ h. by_due W w a n weighs ((le-div_iff_mul-le some).0 h))

module _ (W t w a : ℕ) (some : 1 ≤ W) where
  -- a x W < t x w exactly where a is below t x w / W rounded up
  pub below_reach : (a * W < t * w) ↔ (a + 1 ≤ reach W t w)
  unfolding reach
  below_reach = (λ h. (le-div_iff_mul-le some).1 (omega arith), λ h. omega (arith, (le-div_iff_mul-le some).0 h))

  -- unit number a + 1 of a place may be taken by unit t exactly where a + 1 is at most t x w / W rounded up
  pub may_reach : (may_take W t w a ≡ true) ↔ (a + 1 ≤ reach W t w)
  unfolding may_take
  may_reach = (λ m. below_reach.0 (may_below W t w a m), λ h. lt-ltb (a * W) (t * w) (below_reach.1 h))

  pub may_not_reach : may_take W t w a ≡ false → reach W t w ≤ a
  unfolding reach
  may_not_reach m =
      let h : t * w ≤ a * W = may_not W t w a m in
      omega (arith, (div-lt_iff_lt-mul {x = t * w + (W - 1)} {y = suc a} some).1 (omega arith))

-- a later unit reaches no less
pub reach_grows : (W s t w : ℕ) → 1 ≤ W → s ≤ t → reach W s w ≤ reach W t w
reach_grows W s t w some h = go (reach W s w) refl
  where
    go : (r : ℕ) → reach W s w ≡ r → r ≤ reach W t w
    go zero e = zero-le
    go (suc a) e =
        let b : a * W < s * w = (below_reach W s w a some).1 (omega arith) in
        omega (arith, (below_reach W t w a some).0 (omega (arith, mul-le-mul_right w h)))

module _ (ws : List ℕ) (some : 1 ≤ sum_of ws) where
  -- a total after unit t is within what may have been taken by unit t
  pub within_reach : (t i : ℕ) → get_or (totals ws t) i 0 ≤ reach (sum_of ws) t (get_or ws i 0)
  unfolding reach
  within_reach t i = ceiling ws some t i

  module _ (n t : ℕ) (before : t ≤ n) where
    -- nobody is ever more than one ahead
    pub one_ahead : (i : ℕ) → get_or (totals ws t) i 0 ≤ lo ws n i + 1
    one_ahead i =
        let h : get_or (totals ws n) i 0 * sum_of ws < (lo ws n i + 2) * sum_of ws =
        omega (arith, below_ceiling ws some n i, lt-div-mul-add {a = n * get_or ws i 0} some) in
        omega (arith, lt_of_mul-lt-mul_right (sum_of ws) h, never_fall ws some t n before i)

    pub ahead_bit : (i : ℕ) → ahead_at ws n t i ≤ 1
    ahead_bit i = omega (arith, one_ahead i)

  -- at n every place has its full units, and one more where it is ahead
  pub ahead_end : (n i : ℕ) → get_or (totals ws n) i 0 ≡ lo ws n i + ahead_at ws n n i
  ahead_end n i = omega (arith, floor ws some n i)
