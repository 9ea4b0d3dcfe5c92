-- A refused check is the row that it names; what passed is within the limits, and its payouts are the rule's. Assumes nothing.
use Rattle.std.specs.Prelude.{Ok}
use mathlib.Core.Path.{◌≡◌, sym, ◌∙◌}
use Prim.Native.Nat.{◌+◌, ◌≤◌}
use native.Mathlib.Omega.{arith}
use Rattle.refusal.specs.Rows.{check_of}
use Rattle.amount.specs.Amounts.{largest}
use Rattle.book.specs.Books.{settled_sum}
use Rattle.book.specs.Moves.{net_of, units_of, post_rows}
use Rattle.book.proofs.Answered.{Fit, post_fit, post_refused, post_passed}
use Rattle.book.proofs.Book.post.Goals as goal

pub overflow_add-next : goal.overflow_add-next
overflow_add-next c =
    let passed : check_of (post_rows c.args.self c.args.amount) ≡ Ok tt = sym c.check_post.ensures ∙ c.in-Ok.is in
    let fit : Fit c.args.self c.args.amount × (settled_sum c.args.self + (net_of c.args.self + units_of c.args.amount) ≤ largest) = post_fit c.args.self c.args.amount passed in
    omega (arith, fit.1, c.net_of-net.ensures, c.units_of.ensures)

pub moved-requires : goal.moved-requires
moved-requires c =
    let passed : check_of (post_rows c.args.self c.args.amount) ≡ Ok tt = sym c.check_post.ensures ∙ c.in-Ok.is in
    let fit : Fit c.args.self c.args.amount × (settled_sum c.args.self + (net_of c.args.self + units_of c.args.amount) ≤ largest) = post_fit c.args.self c.args.amount passed in
    let f = fit.0 in
    (f.some, f.most, omega (arith, fit.1, c.net_of-net.ensures, c.units_of.ensures))

pub returns-in-Err : goal.returns-in-Err
returns-in-Err c =
    let a = c.args in
    post_refused a.self a.amount c.refused.result c.in-Err.refusal
    (sym c.check_post.ensures ∙ c.in-Err.is) c.refused.ensures

pub returns-in-Ok : goal.returns-in-Ok
returns-in-Ok c =
    let passed : check_of (post_rows c.args.self c.args.amount) ≡ Ok tt = sym c.check_post.ensures ∙ c.in-Ok.is in
    let a = c.args in
    post_passed a.self a.amount c.moved.result c.net_of-net.result c.units_of.result c.net_of-net.ensures c.units_of.ensures
    passed c.moved.ensures
