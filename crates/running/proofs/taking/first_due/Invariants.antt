-- The scan of all places holds the one that is due first, or 16. Two numbers of 32 bits multiply to one of 64. Assumes nothing.
use Rattle.running.proofs.FirstDue.{Scan}
use Rattle.running.proofs.taking.first_due.Given as goal

abbrev pub invariant-loop-i : goal.invariant-loop-i
invariant-loop-i l = Scan l.weights l.sum l.held l.due l.t l.i l.best l.least
