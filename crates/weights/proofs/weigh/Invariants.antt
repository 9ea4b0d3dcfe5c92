-- Of at most 64 weights the sum so far is the sum over the places passed, and below 2^32 for each of them. Assumes nothing.
use mathlib.Core.Path.{◌≡◌}
use Prim.Native.Nat.{◌*◌, ◌≤◌}
use lib.ListN.{get_or}
use Rattle.whole.proofs.Sums.{sum_to}
use Rattle.weights.proofs.weigh.Given as goal

abbrev pub invariant-loop-weight : goal.invariant-loop-weight
invariant-loop-weight l = (l.sum ≡ sum_to (λ k. get_or l.weights k 0) l.weight-index) × (l.sum ≤ l.weight-index * 4294967295)
