-- The places passed hold the shares rounded down, and what is left is the number of vouchers less these, whose sum never goes past it.
-- Assumes nothing.
use mathlib.Core.Path.{◌≡◌}
use Prim.Native.Nat.{◌+◌}
use lib.ListN.{get_or}
use Rattle.whole.specs.Lists.{filled}
use Rattle.whole.proofs.Sums.{sum_to}
use Rattle.remainder.specs.Rule.{rounded_down}
use Rattle.vouchers.proofs.giving.start.Given as goal

abbrev pub invariant-loop-i : goal.invariant-loop-i
invariant-loop-i l = (l.held ≡ filled 0 (λ k. get_or (rounded_down l.count l.weights) k 0) l.i l.initial.held)
    × (l.left + sum_to (λ k. get_or (rounded_down l.count l.weights) k 0) l.i ≡ l.count)
