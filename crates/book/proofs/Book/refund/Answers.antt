-- A refused check is the row that it names; what passed is within the limits, and its payouts are the rule's. Assumes nothing.
use Rattle.std.specs.Prelude.{Ok}
use mathlib.Core.Path.{◌≡◌, sym, ◌∙◌}
use Prim.Native.Nat.{◌≤◌}
use native.Mathlib.Omega.{arith}
use Rattle.refusal.specs.Rows.{check_of}
use Rattle.book.specs.Moves.{net_of, units_of, refund_rows}
use Rattle.book.proofs.Answered.{Fit, refund_fit, refund_refused, refund_passed}
use Rattle.book.proofs.Book.refund.Goals as goal

pub overflow_sub-next : goal.overflow_sub-next
overflow_sub-next c =
    let passed : check_of (refund_rows c.args.self c.args.amount) ≡ Ok tt = sym c.check_refund.ensures ∙ c.in-Ok.is in
    let fit : Fit c.args.self c.args.amount × (units_of c.args.amount ≤ net_of c.args.self) = refund_fit c.args.self c.args.amount passed in
    omega (arith, fit.1, c.net_of-net.ensures, c.units_of.ensures)

pub moved-requires : goal.moved-requires
moved-requires c =
    let passed : check_of (refund_rows c.args.self c.args.amount) ≡ Ok tt = sym c.check_refund.ensures ∙ c.in-Ok.is in
    let fit : Fit c.args.self c.args.amount × (units_of c.args.amount ≤ net_of c.args.self) = refund_fit c.args.self c.args.amount passed in
    let f = fit.0 in
    (f.some, f.most, omega (arith, fit.1, c.net_of-net.ensures, c.units_of.ensures))

pub returns-in-Err : goal.returns-in-Err
returns-in-Err c =
    let a = c.args in
    refund_refused a.self a.amount c.refused.result c.in-Err.refusal
    (sym c.check_refund.ensures ∙ c.in-Err.is) c.refused.ensures

pub returns-in-Ok : goal.returns-in-Ok
returns-in-Ok c =
    let passed : check_of (refund_rows c.args.self c.args.amount) ≡ Ok tt = sym c.check_refund.ensures ∙ c.in-Ok.is in
    let a = c.args in
    refund_passed a.self a.amount c.moved.result c.net_of-net.result c.units_of.result c.net_of-net.ensures c.units_of.ensures
    passed c.moved.ensures
