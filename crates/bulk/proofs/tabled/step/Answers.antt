-- A refused call writes zeros and leaves the net total; an accepted one writes the difference of the totals at the two net totals, of
-- which the greater has the greater totals. Assumes nothing.
use mathlib.Core.Path.{◌≡◌, sym, ◌∙◌}
use Prim.Native.Nat.{◌+◌, ◌-◌}
use native.Mathlib.Omega.{arith}
use mir.Syntax.{w64}
use mir.ValLaws.{to_z-of_z}
use Rattle.bulk.proofs.LeftSaid.{totals_rise, next_is, next_within, step_refused, step_accepted}
use Rattle.bulk.proofs.tabled.step.Goals as goal

pub returns-in-Err : goal.returns-in-Err
returns-in-Err c =
    let a = c.args in
    rw c.number.ensures (step_refused a.settled a.weights a.refund a.coefficient _ a.j a.net c.magnitude-m.result c.is_negative.result
    a.payouts.now a.numbers.now a.held.now _ (to_z-of_z w64 a.coefficient c.ranges.coefficient) c.is_negative.ensures c.magnitude-m.ensures c.requires.net_bound.1 c.in-Err.refusal c.in-Err.ensures c.write.ensures)

pub totals_by-totals-requires-clause-n_le_largest : goal.totals_by-totals-requires-clause-n_le_largest
totals_by-totals-requires-clause-n_le_largest c =
    let a = c.args in
    omega (arith, next_within a.settled a.refund c.is_negative.result c.magnitude-m.result a.net c.requires.net_bound.0 (sym c.in-Ok.ensures))

pub pay-requires-clause-by_index : goal.pay-requires-clause-by_index
pay-requires-clause-by_index c =
    let a = c.args in
    let is : c.in-Ok.next ≡ a.net - c.magnitude-m.result =
    next_is a.settled a.refund c.is_negative.result c.magnitude-m.result a.net _ (sym c.in-Ok.ensures) ∙ rw c.if-refund.true in
    totals_rise a.weights c.requires.weighed c.in-Ok.next a.net _ _ (omega arith) c.totals_by-totals.ensures c.requires.net_bound.1

pub pay-requires-else-refund-clause-by_index : goal.pay-requires-else-refund-clause-by_index
pay-requires-else-refund-clause-by_index c =
    let a = c.args in
    let is : c.in-Ok.next ≡ a.net + c.magnitude-m.result =
    next_is a.settled a.refund c.is_negative.result c.magnitude-m.result a.net _ (sym c.in-Ok.ensures) ∙ rw c.if-refund.false in
    totals_rise a.weights c.requires.weighed a.net c.in-Ok.next _ _ (omega arith) c.requires.net_bound.1 c.totals_by-totals.ensures

pub returns-then-refund : goal.returns-then-refund
returns-then-refund c =
    let a = c.args in
    step_accepted a.settled a.weights a.refund a.coefficient _ a.j a.net c.magnitude-m.result c.is_negative.result
    a.payouts.now a.numbers.now a.held.now _ (to_z-of_z w64 a.coefficient c.ranges.coefficient) c.is_negative.ensures c.magnitude-m.ensures c.requires.net_bound.1 c.in-Ok.next c.totals_by-totals.result c.in-Ok.ensures
    c.totals_by-totals.ensures (rw c.if-refund.true c.pay.ensures)

pub returns-else-refund : goal.returns-else-refund
returns-else-refund c =
    let a = c.args in
    step_accepted a.settled a.weights a.refund a.coefficient _ a.j a.net c.magnitude-m.result c.is_negative.result
    a.payouts.now a.numbers.now a.held.now _ (to_z-of_z w64 a.coefficient c.ranges.coefficient) c.is_negative.ensures c.magnitude-m.ensures c.requires.net_bound.1 c.in-Ok.next c.totals_by-totals.result c.in-Ok.ensures
    c.totals_by-totals.ensures (rw c.if-refund.false c.pay-else-refund.ensures)
