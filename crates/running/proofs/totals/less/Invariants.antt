-- At each place the difference takes the place of the greater total. Assumes nothing.
use mathlib.Core.Path.{◌≡◌}
use Prim.Native.Nat.{◌-◌}
use lib.ListN.{get_or}
use Rattle.whole.specs.Lists.{filled}
use Rattle.running.proofs.totals.less.Given as goal

abbrev pub invariant-loop-i : goal.invariant-loop-i
invariant-loop-i l = l.rest ≡ filled 0 (λ k. get_or l.fn.high k 0 - get_or l.low k 0) l.i l.fn.high
