-- The place found is that of the largest remainder, and its share, at most the sum of them all, takes one more.
-- Assumes nothing.
use mathlib.Core.List.{List}
use Prim.Native.Nat.{ℕ, ◌≤◌, ◌<◌}
use native.Mathlib.Omega.{arith}
use lib.ListN.{length}
use Rattle.whole.proofs.Sums.{place_within}
use Rattle.remainder.specs.Rule.{largest}
use Rattle.remainder.proofs.Largest.{largest_is}
use Rattle.sharing.proofs.spread.serve_one.Goals as goal

below : (rests : List ℕ) → 1 ≤ length rests → largest rests (length rests) < length rests
below rests some = (largest_is rests (length rests) some).below

pub offset_bounds-shares-place : goal.offset_bounds-shares-place
offset_bounds-shares-place c = omega (arith, below c.args.rests.now (omega arith))

pub bounds-shares-place : goal.bounds-shares-place
bounds-shares-place c = omega (arith, below c.args.rests.now (omega arith))

pub overflow_add-shares : goal.overflow_add-shares
overflow_add-shares c = omega (arith, place_within c.args.shares.now c.largest_place-place.result)

pub bounds-shares-place-2 : goal.bounds-shares-place-2
bounds-shares-place-2 c = omega (arith, below c.args.rests.now (omega arith))

pub offset_bounds-rests-place : goal.offset_bounds-rests-place
offset_bounds-rests-place c = omega (arith, below c.args.rests.now (omega arith))

pub bounds-rests-place : goal.bounds-rests-place
bounds-rests-place c = omega (arith, below c.args.rests.now (omega arith))
