-- Each turn lays unit m + 1 down in its slot, and carries the quotient to the next. Assumes nothing.
use Rattle.running.proofs.Laid.{Laid}
use Rattle.running.proofs.window.lay.Given as goal

abbrev pub invariant-loop-m : goal.invariant-loop-m
invariant-loop-m l = Laid l.weight l.sum l.u l.first l.full l.initial.slots l._m l.q l.r l.slots
