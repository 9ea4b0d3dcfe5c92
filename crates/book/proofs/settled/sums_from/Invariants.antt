-- The sums so far and those of the places to come are those from the place on. Assumes nothing.
use mathlib.Core.Path.{◌≡◌}
use Prim.Native.Nat.{◌+◌}
use lib.ListN.{length, drop}
use Rattle.book.specs.Settled.{above, below}
use Rattle.book.proofs.settled.sums_from.Given as goal

abbrev pub invariant-loop-total : goal.invariant-loop-total
invariant-loop-total l =
    (above (drop l.from l.fn.settled) ≡ l.above + above (drop (length l.yielded) (drop l.from l.fn.settled)))
    × (below (drop l.from l.fn.settled) ≡ l.below + below (drop (length l.yielded) (drop l.from l.fn.settled)))
