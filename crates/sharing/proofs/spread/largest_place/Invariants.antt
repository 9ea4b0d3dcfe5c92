-- The place and its remainder are those of the largest among the places passed. Assumes nothing.
use mathlib.Core.Path.{◌≡◌}
use lib.ListN.{get_or}
use Rattle.remainder.specs.Rule.{largest}
use Rattle.sharing.proofs.spread.largest_place.Given as goal

abbrev pub invariant-loop-i : goal.invariant-loop-i
invariant-loop-i l = (l.place ≡ largest l.rests l.i) × (l.top ≡ get_or l.rests l.place 0)
