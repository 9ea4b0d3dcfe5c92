-- The call's answer gives the next book; its payouts and the number of its outcome are written. Assumes nothing.
use mir.Syntax.{w64}
use mir.ValLaws.{to_z-of_z}
use Rattle.bulk.proofs.Call.{turned}
use Rattle.bulk.proofs.turns.turn.Goals as goal

pub returns : goal.returns
returns c =
    let a = c.args in
    turned a.book a.refund a.coefficient _ a.j a.payouts.now a.numbers.now _ _ c.call-moved.result
    (to_z-of_z w64 a.coefficient c.ranges.coefficient) c.call-moved.ensures c.write.ensures
    c.number_in.ensures
