-- No total is above its share rounded up: who took unit t had a x W < t x w, so that (a + 1) x W < t x w + W, and the units that
-- come later only raise the right side. A place of weight 0 therefore has nothing. Assumes nothing.
use mathlib.Core.Path.{◌≡◌}
use mathlib.Core.List.{List}
use Prim.Native.Nat.{ℕ, zero, suc, ◌+◌, ◌-◌, ◌*◌, ◌/◌, ◌≤◌, ◌<◌}
use native.Mathlib.Nat.{le-div_iff_mul-le, lt_of_mul-lt-mul_right}
use native.Mathlib.Omega.{arith}
use lib.ListN.{get_or}
use Rattle.units.specs.Rule.{sum_of, totals}
use Rattle.units.proofs.Due.{may_below}
use Rattle.units.proofs.Added.{totals_none, each_place}

module _ (ws : List ℕ) (some : 1 ≤ sum_of ws) where
  -- a total times W is below n x w + W
  pub below_ceiling : (n i : ℕ) → get_or (totals ws n) i 0 * sum_of ws < n * get_or ws i 0 + sum_of ws
  below_ceiling zero i = rw totals_none (omega arith)
  below_ceiling (suc n) i =
      each_place ws some (λ j. get_or (totals ws (suc n)) j 0 * sum_of ws < suc n * get_or ws j 0 + sum_of ws) n
      (λ p c e. rw e (omega (arith, may_below (sum_of ws) (suc n) (get_or ws p 0) (get_or (totals ws n) p 0) c.may)))
      (λ p j c d e. rw e (omega (arith, below_ceiling n j)))
      i

  -- n x w / W rounded up
  pub ceiling : (n i : ℕ) → get_or (totals ws n) i 0 ≤ (n * get_or ws i 0 + (sum_of ws - 1)) / sum_of ws
  ceiling n i = (le-div_iff_mul-le some).1 (omega (arith, below_ceiling n i))

  -- a place of weight 0 has nothing
  pub weightless : (n i : ℕ) → get_or ws i 0 ≡ 0 → get_or (totals ws n) i 0 ≡ 0
  weightless n i e =
      let h : get_or (totals ws n) i 0 * sum_of ws < 1 * sum_of ws = omega (arith, rw e at (below_ceiling n i)) in
      omega (arith, lt_of_mul-lt-mul_right (sum_of ws) h)
