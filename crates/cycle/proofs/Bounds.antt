-- What the numbers of a cycle stay below, so that they fit: no weight and no total within a cycle is over 10,000. Assumes nothing.
use mathlib.Core.List.{List}
use mathlib.Core.Path.{◌≡◌}
use Prim.Native.Nat.{ℕ, ◌≤◌, ◌<◌}
use native.Mathlib.Omega.{arith}
use lib.ListN.{length, get_or}
use Rattle.whole.specs.Sums.{sum_of}
use Rattle.units.specs.Rule.{totals}
use Rattle.units.proofs.Added.{sum_totals}
use Rattle.running.specs.Limits.{partners, weight_sum}
use Rattle.running.proofs.Places.{place_within}
use Rattle.cycle.specs.Cycle.{Weighed}

module _ (ws : List ℕ) (sum : ℕ) (w : Weighed ws sum) (long : length ws ≡ partners) where
  pub some_weight : 1 ≤ sum_of ws
  some_weight = omega (arith, w.same, w.some)

  pub weight_within : (i : ℕ) → i < partners → get_or ws i 0 ≤ weight_sum
  weight_within i b = omega (arith, place_within ws i, w.same, w.most)

  pub total_within : (n i : ℕ) → i < partners → get_or (totals ws n) i 0 ≤ n
  total_within n i b = omega (arith, place_within (totals ws n) i, sum_totals ws some_weight n)
