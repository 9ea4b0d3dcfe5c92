-- The place, its weight and one more than it holds are those of the highest average among the places passed; both products have two factors of
-- 32 bits. Assumes nothing.
use mathlib.Core.Path.{◌≡◌}
use Prim.Native.Nat.{◌+◌}
use lib.ListN.{get_or}
use Rattle.average.specs.Rule.{highest}
use Rattle.vouchers.proofs.giving.highest_place.Given as goal

abbrev pub invariant-loop-i : goal.invariant-loop-i
invariant-loop-i l = (l.place ≡ highest l.weights l.held l.i)
    × (l.weight ≡ get_or l.weights l.place 0)
    × (l.next ≡ get_or l.held l.place 0 + 1)
