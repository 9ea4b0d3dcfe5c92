-- Each turn adds one place's bit. Assumes nothing.
use Rattle.cycle.proofs.RowBits.{Rowed}
use Rattle.cycle.proofs.cycle.row.Given as goal

abbrev pub invariant-loop-i : goal.invariant-loop-i
invariant-loop-i l = Rowed l.weights l.held l.n l.i l.bits
