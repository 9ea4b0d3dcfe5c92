-- A refused check is the row that it names; what passed is the total, and row 13 is asked of it. Assumes nothing.
use mathlib.Core.Path.{ap}
use Rattle.std.specs.Prelude.{Err}
use Rattle.std.proofs.lemmas.Result.{err_from_is_err_and}
use Rattle.refusal.specs.Rows.{means}
use mathlib.Core.Path.{◌≡◌, sym, ◌∙◌, ap₂}
use Prim.Native.Nat.{ℕ}
use lib.IntN.{ℤ, ◌+ℤ◌}
use mir.Syntax.{w64}
use mir.Val.{SFits}
use mir.ValLaws.{to_z-of_z}
use Rattle.refusal.specs.Rows.{check_of}
use Rattle.refusal.proofs.Check.{passed, refused}
use Rattle.whole.specs.Whole.{magnitude_of}
use Rattle.whole.proofs.Laws.{read_back}
use Rattle.amount.specs.Amounts.{limited, raised_to}
use Rattle.amount.specs.Raising.{nearer}
use Rattle.amount.specs.Sum.{rows_of_two, greater_scale, total, sum_said}
use borrow.Author.Rules.{rules}
use Rattle.amount.proofs.Limits.{pair, read_rows_lem}
use Rattle.amount.proofs.Raised.{one_near, both_stand, stands_limited}
use Rattle.amount.proofs.SumLaws.{made}
use Rattle.amount.proofs.Amount.sum.Goals as goal

pub total-requires : goal.total-requires
total-requires c =
    let own : SFits w64 c.args.self.coefficient = search rules in
    let other : SFits w64 c.args.other.coefficient = search rules in
    let told : let a = c.args in c.check_two.result ≡ check_of (rows_of_two a.self a.other) =
    let s = c in
    let a = s.args.self in
    let b = s.args.other in
    let m = c.magnitude-m in
    let n = c.magnitude-n in
    c.check_two.ensures ∙ read_rows_lem a b m.result n.result own other m.ensures n.ensures in
    let e = c in
    let s = e in
    let a = s.args.self in
    let b = s.args.other in
    let limits = pair a.scale b.scale (magnitude_of a.coefficient) (magnitude_of b.coefficient) a.currency b.currency
    (sym told ∙ e.in_ok-check_two.was) in
    (limits.first.scaled, limits.second.scaled)

pub returns-in_err-check_two : goal.returns-in_err-check_two
unfolding sum_said
returns-in_err-check_two c =
    let p = err_from_is_err_and c.from_residual.result c.from_residual.ensures.1 in
    ap means (p.1 ∙ ap Err p.2)
    ∙ (let own : SFits w64 c.args.self.coefficient = search rules in
    let other : SFits w64 c.args.other.coefficient = search rules in
    let told : let a = c.args in c.check_two.result ≡ check_of (rows_of_two a.self a.other) =
    let s = c in
    let a = s.args.self in
    let b = s.args.other in
    let m = c.magnitude-m in
    let n = c.magnitude-n in
    c.check_two.ensures ∙ read_rows_lem a b m.result n.result own other m.ensures n.ensures in
    let k = c in
    let a = k.args in
    sym
    (refused (limited (total a.self a.other) (made a.self a.other)) (rows_of_two a.self a.other) c.in_err-check_two.field-0.0
    (sym told ∙ c.in_err-check_two.was)))

pub returns : goal.returns
unfolding sum_said
returns c =
    let own : SFits w64 c.args.self.coefficient = search rules in
    let other : SFits w64 c.args.other.coefficient = search rules in
    let told : let a = c.args in c.check_two.result ≡ check_of (rows_of_two a.self a.other) =
    let s = c in
    let a = s.args.self in
    let b = s.args.other in
    let m = c.magnitude-m in
    let n = c.magnitude-n in
    c.check_two.ensures ∙ read_rows_lem a b m.result n.result own other m.ensures n.ensures in
    let g = c in
    let k = g in
    let s = k in
    let a = s.args.self in
    let b = s.args.other in
    let sum =
    read_back c.total.result c.total.type_inv
    ∙ rw (to_z-of_z w64 a.coefficient own, to_z-of_z w64 b.coefficient other) at c.total.ensures in
    let clear = sym told ∙ g.in_ok-check_two.was in
    let limits = pair a.scale b.scale (magnitude_of a.coefficient) (magnitude_of b.coefficient) a.currency b.currency clear in
    let u = raised_to (greater_scale a b) a in
    let v = raised_to (greater_scale a b) b in
    c.within.ensures
    ∙ ap₂ (λ (scale : ℕ) (z : ℤ). limited z (record { currency = a.currency; scale = scale; coefficient = z })) g.max.ensures sum
    ∙ stands_limited (λ (z : ℤ). record { currency = a.currency; scale = greater_scale a b; coefficient = z }) (nearer u +ℤ nearer v) (total a b)
    (both_stand u v (one_near a.coefficient b.coefficient a.scale b.scale limits.first.within limits.second.within))
    ∙ sym (passed (limited (total a b) (made a b)) (rows_of_two a b) clear)
