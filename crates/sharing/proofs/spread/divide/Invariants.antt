-- The places passed hold the shares rounded down and the remainders, and what is left is the magnitude less the shares passed,
-- whose sum never goes past it. Assumes nothing.
use mathlib.Core.Path.{◌≡◌}
use Prim.Native.Nat.{◌+◌}
use lib.ListN.{get_or}
use Rattle.whole.specs.Lists.{filled}
use Rattle.whole.proofs.Sums.{sum_to}
use Rattle.remainder.specs.Rule.{rounded_down, remainders}
use Rattle.sharing.proofs.spread.divide.Given as goal

abbrev pub invariant-loop-i : goal.invariant-loop-i
invariant-loop-i l = (l.shares ≡ filled 0 (λ k. get_or (rounded_down l.m l.weights) k 0) l.i l.initial.shares)
    × (l.rests ≡ filled 0 (λ k. get_or (remainders l.m l.weights) k 0) l.i l.initial.rests)
    × (l.left + sum_to (λ k. get_or (rounded_down l.m l.weights) k 0) l.i ≡ l.m)
