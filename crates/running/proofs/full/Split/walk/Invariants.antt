-- Each turn settles unit t + 1. Assumes nothing.
use Rattle.running.proofs.Straddling.{Marked}
use Rattle.running.proofs.Walked.{Walked}
use Rattle.running.proofs.full.Split.walk.Given as goal

abbrev pub invariant-loop-t : goal.invariant-loop-t
invariant-loop-t l = Walked l.self.weights l.self.n l.u l.t l.ahead l.settled × Marked l.self.weights l.self.sum l.self.full l.ahead l.due
