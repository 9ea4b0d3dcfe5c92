-- Each turn writes a row and gives one unit to its taker. Assumes nothing.
use Rattle.cycle.proofs.Walk.{Walked}
use Rattle.cycle.proofs.cycle.fill.Given as goal

abbrev pub invariant-loop-n : goal.invariant-loop-n
invariant-loop-n l = Walked l.weights l.sum l.initial.table l.n l.held l.due l.table
