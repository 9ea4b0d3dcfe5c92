-- A refused check is the row that it names; what passed has the opposite coefficient. Assumes nothing.
use Rattle.std.specs.Prelude.{Err}
use Rattle.std.proofs.lemmas.Result.{err_from_is_err_and}
use Rattle.refusal.specs.Rows.{means}
use mathlib.Core.Path.{◌≡◌, sym, ◌∙◌, ap}
use Prim.Native.Nat.{ℕ}
use borrow.Author.Rules.{rules}
use lib.IntN.{ℤ, neg_ℤ}
use mir.Syntax.{w64}
use mir.Val.{SFits}
use mir.ValLaws.{to_z-of_z}
use Rattle.refusal.specs.Rows.{Row, gives, check_of}
use Rattle.refusal.proofs.Check.{passed, refused}
use Rattle.whole.specs.Whole.{magnitude_of}
use Rattle.whole.proofs.Laws.{read_back}
use mathlib.Core.List.{List}
use Rattle.amount.specs.declared.Amount.{Amount}
use Rattle.amount.specs.Amounts.{amount_rows}
use Rattle.amount.specs.Sum.{negate_said}
use Rattle.amount.proofs.Limits.{read_magnitude}
use Rattle.amount.proofs.Amount.negate.Goals as goal

-- the rows of an amount
abbrev rows_of_one : Amount → List Row
rows_of_one a = amount_rows a.scale (magnitude_of a.coefficient) a.currency

-- the amount with a coefficient
abbrev made : Amount → ℤ → Amount
made a z = record { currency = a.currency; scale = a.scale; coefficient = z }

pub returns-in_err-check_one : goal.returns-in_err-check_one
unfolding negate_said
returns-in_err-check_one c =
    let p = err_from_is_err_and c.from_residual.result c.from_residual.ensures.1 in
    ap means (p.1 ∙ ap Err p.2)
    ∙ (let own : SFits w64 c.args.self.coefficient = search rules in
    let told : c.check_one.result ≡ check_of (rows_of_one c.args.self) =
    let s = c in
    let a = s.args.self in
    c.check_one.ensures
    ∙ ap (λ (m : ℕ). check_of (amount_rows a.scale m a.currency))
    (read_magnitude a.coefficient c.magnitude.result own c.magnitude.ensures) in
    let k = c in
    let a = k.args.self in
    sym (refused (gives (made a (neg_ℤ a.coefficient))) (rows_of_one a) c.in_err-check_one.field-0.0 (sym told ∙ c.in_err-check_one.was)))

pub returns : goal.returns
unfolding negate_said
returns c =
    let own : SFits w64 c.args.self.coefficient = search rules in
    let told : c.check_one.result ≡ check_of (rows_of_one c.args.self) =
    let s = c in
    let a = s.args.self in
    c.check_one.ensures
    ∙ ap (λ (m : ℕ). check_of (amount_rows a.scale m a.currency))
    (read_magnitude a.coefficient c.magnitude.result own c.magnitude.ensures) in
    let e = c in
    let s = e in
    let a = s.args.self in
    ap (λ (z : ℤ). gives (made a z))
    (read_back c.opposite.result c.opposite.type_inv ∙ rw (to_z-of_z w64 a.coefficient own) at c.opposite.ensures)
    ∙ sym (passed (gives (made a (neg_ℤ a.coefficient))) (rows_of_one a) (sym told ∙ e.in_ok-check_one.was))
