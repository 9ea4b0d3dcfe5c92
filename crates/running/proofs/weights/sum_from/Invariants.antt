-- With what stands from the next place on it is the sum asked for. Assumes nothing.
use mathlib.Core.Path.{◌≡◌}
use Prim.Native.Nat.{◌+◌, ◌*◌, ◌^◌, ◌≤◌}
use lib.ListN.{drop}
use Rattle.whole.specs.Sums.{sum_of}
use Rattle.running.proofs.weights.sum_from.Given as goal

abbrev pub invariant-loop-i : goal.invariant-loop-i
invariant-loop-i l = (l.sum + sum_of (drop l.i l.weights) ≡ sum_of (drop l.from l.weights)) × (l.sum ≤ l.i * 2 ^ 32)
