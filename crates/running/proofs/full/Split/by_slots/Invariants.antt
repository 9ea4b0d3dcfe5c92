-- Each turn lays one place's full units down, and counts those before the window. Assumes nothing.
use Rattle.running.proofs.Filled.{Filled}
use Rattle.running.proofs.full.Split.by_slots.Given as goal

abbrev pub invariant-loop-i : goal.invariant-loop-i
invariant-loop-i l = Filled l.self.weights l.self.n l.u l.initial.slots l.i l.taken l.slots
