-- The loop's invariant: what is still to be written into the list as it is now makes of it what the whole writing makes of the first list.
-- Assumes nothing.
use mathlib.Core.Path.{◌≡◌}
use Rattle.lines.proofs.Fills.{filled}
use Rattle.lines.proofs.texts.fill.Given as goal

abbrev pub invariant-loop-i : goal.invariant-loop-i
invariant-loop-i l = filled l.out l.at l.i l.rest ≡ filled l.initial.out l.at l.count l.m
