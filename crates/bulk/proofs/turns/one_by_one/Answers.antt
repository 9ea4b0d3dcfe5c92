-- After j turns the first j calls are served. Assumes nothing.
use borrow.Author.Rules.{rules}
use Rattle.whole.proofs.Laws.{read_back}
use Rattle.bulk.proofs.Steps.{served_start, served_step}
use Rattle.bulk.proofs.turns.one_by_one.Goals as goal

pub loop-j-init : goal.loop-j-init
loop-j-init c = served_start _ _ _ _ _

pub loop-j-preserved : goal.loop-j-preserved
loop-j-preserved c =
    let a = c.args in
    served_step a.book a.refunds.now a.coefficients.now a.payouts.now a.numbers.now c.loop-j.invariant _ (read_back _ (search rules)) c.turn-last.ensures
