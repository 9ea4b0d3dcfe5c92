-- A refused check is the row that it names; what passed is the order at the greater scale. Assumes nothing.
use Rattle.std.specs.Prelude.{Err}
use Rattle.std.proofs.lemmas.Result.{err_from_is_err_and}
use Rattle.refusal.specs.Rows.{means}
use mathlib.Core.Path.{◌≡◌, sym, ◌∙◌, ap}
use borrow.Author.Rules.{rules}
use mir.Syntax.{w64}
use mir.Val.{SFits}
use mir.ValLaws.{to_z-of_z}
use Rattle.refusal.specs.Rows.{gives, check_of}
use Rattle.refusal.proofs.Check.{passed, refused}
use Rattle.whole.specs.Whole.{magnitude_of}
use Rattle.amount.specs.Sum.{rows_of_two, order_said}
use Rattle.amount.proofs.ByWorth.{found}
use Rattle.amount.proofs.Limits.{pair, read_rows_lem}
use Rattle.amount.proofs.Amount.order.Goals as goal

pub ordered-requires : goal.ordered-requires
ordered-requires c =
    let own : SFits w64 c.args.self.coefficient = search rules in
    let other : SFits w64 c.args.other.coefficient = search rules in
    let told : let a = c.args in c.check_two.result ≡ check_of (rows_of_two a.self a.other) =
    let s = c in
    let m = c.magnitude-m in
    let n = c.magnitude-n in
    c.check_two.ensures ∙ read_rows_lem s.args.self s.args.other m.result n.result own other m.ensures n.ensures in
    let e = c in
    let s = e in
    let a = s.args.self in
    let b = s.args.other in
    let limits = pair a.scale b.scale (magnitude_of a.coefficient) (magnitude_of b.coefficient) a.currency b.currency
    (sym told ∙ e.in_ok-check_two.was) in
    rw (to_z-of_z w64 a.coefficient own, to_z-of_z w64 b.coefficient other)
    (limits.first.within, limits.first.scaled, limits.second.within, limits.second.scaled)

pub returns-in_err-check_two : goal.returns-in_err-check_two
unfolding order_said
returns-in_err-check_two c =
    let p = err_from_is_err_and c.from_residual.result c.from_residual.ensures.1 in
    ap means (p.1 ∙ ap Err p.2)
    ∙ (let own : SFits w64 c.args.self.coefficient = search rules in
    let other : SFits w64 c.args.other.coefficient = search rules in
    let told : let a = c.args in c.check_two.result ≡ check_of (rows_of_two a.self a.other) =
    let s = c in
    let m = c.magnitude-m in
    let n = c.magnitude-n in
    c.check_two.ensures ∙ read_rows_lem s.args.self s.args.other m.result n.result own other m.ensures n.ensures in
    let k = c in
    let a = k.args in
    sym
    (refused (gives (found a.self a.other)) (rows_of_two a.self a.other) c.in_err-check_two.field-0.0
    (sym told ∙ c.in_err-check_two.was)))

pub returns : goal.returns
unfolding order_said
returns c =
    let own : SFits w64 c.args.self.coefficient = search rules in
    let other : SFits w64 c.args.other.coefficient = search rules in
    let told : let a = c.args in c.check_two.result ≡ check_of (rows_of_two a.self a.other) =
    let s = c in
    let m = c.magnitude-m in
    let n = c.magnitude-n in
    c.check_two.ensures ∙ read_rows_lem s.args.self s.args.other m.result n.result own other m.ensures n.ensures in
    let e = c in
    let s = e in
    let a = s.args.self in
    let b = s.args.other in
    ap gives (rw (to_z-of_z w64 a.coefficient own, to_z-of_z w64 b.coefficient other) at c.ordered.ensures)
    ∙ sym (passed (gives (found a b)) (rows_of_two a b) (sym told ∙ e.in_ok-check_two.was))
