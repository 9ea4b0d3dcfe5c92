-- Each place's share, rounded down, is stored in its turn. Assumes nothing.
use mathlib.Core.Path.{◌≡◌}
use Prim.Native.Nat.{◌*◌, ◌/◌}
use lib.ListN.{get_or}
use Rattle.whole.specs.Lists.{filled}
use Rattle.running.specs.Limits.{zeros}
use Rattle.running.proofs.full.Split.new.Given as goal

abbrev pub invariant-loop-i : goal.invariant-loop-i
invariant-loop-i l = l.full ≡ filled 0 (λ k. l.n * get_or l.weights k 0 / l.sum) l.i zeros
