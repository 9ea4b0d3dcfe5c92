-- After j turns the first j calls are served. Assumes nothing.
use Rattle.bulk.specs.Serving.{ServedTo}
use Rattle.bulk.proofs.turns.one_by_one.Given as goal

abbrev pub invariant-loop-j : goal.invariant-loop-j
invariant-loop-j l = ServedTo l.initial.last l.refunds l.coefficients l.initial.payouts l.initial.numbers l.j l.last l.payouts l.numbers
