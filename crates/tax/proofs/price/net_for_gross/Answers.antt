-- A refused call is the row that it names. The tax that comes off and the tax on what it leaves agree exactly where a net has the gross. Assumes nothing.
use Rattle.std.proofs.lemmas.Result.{err_from_is_err_and}
use Rattle.refusal.specs.Number.{number_of, blamed_of}
use Rattle.refusal.specs.Rows.{means}
use Rattle.tax.specs.NetFor.{refused}
use Rattle.tax.proofs.NetAnswer.{net_found, net_none}
use Rattle.tax.proofs.price.net_for_gross.Goals as goal

pub returns-in_err-given : goal.returns-in_err-given
returns-in_err-given c =
    let r = c.in_err-given.field-0.0 in
    let p = err_from_is_err_and c.from_residual.result c.from_residual.ensures.1 in
    rw (p.1, p.2)
    (refused (number_of r) (blamed_of r) c.in_err-given.ensures)

pub returns-then-on-off : goal.returns-then-on-off
returns-then-on-off c =
    net_found c.in_ok-given.ensures c.tax-off.result (rw c.from.ensures at c.tax-off.ensures.value) c.tax-on.result c.tax-on.ensures.value
    (means c.split_of.result) c.split_of.ensures c.if-on-off.true

pub returns-else-on-off : goal.returns-else-on-off
returns-else-on-off c =
    net_none c.in_ok-given.ensures c.tax-off.result (rw c.from.ensures at c.tax-off.ensures.value) c.tax-on.result c.tax-on.ensures.value
    c.if-on-off.false
