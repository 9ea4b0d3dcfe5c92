-- Where the test passed the mass is below W; at 0 there is none. Assumes nothing.
use Prim.Native.Nat.{◌-◌, ◌≤◌}
use Rattle.running.proofs.full.Split.start.Given as goal

abbrev pub invariant-loop-back : goal.invariant-loop-back
invariant-loop-back l = 1 ≤ l.back

abbrev pub decreases-loop-back : goal.decreases-loop-back
decreases-loop-back l = l.self.n - l.back
