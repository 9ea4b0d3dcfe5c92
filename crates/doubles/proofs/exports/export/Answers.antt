-- A refused check is the row that it names; what passed is the quotient. Assumes nothing.
use Rattle.std.specs.Prelude.{Ok}
use Rattle.std.proofs.lemmas.Result.{err_from_is_err_and}
use mathlib.Core.Path.{◌≡◌, sym, ◌∙◌, ap}
use mathlib.Core.List.{List}
use Prim.Native.Nat.{ℕ, ◌≤◌}
use borrow.Author.Rules.{rules}
use borrow.Author.Tests.{ltb-false}
use lib.IntN.{ℤ}
use mir.Syntax.{w64}
use mir.Val.{SFits}
use mir.ValLaws.{to_z-of_z}
use Rattle.refusal.specs.Rows.{gives, Row, check_of}
use Rattle.refusal.proofs.Check.{passed, refused, clear}
use Rattle.whole.specs.Whole.{magnitude_of}
use Rattle.amount.specs.declared.Amount.{Amount}
use Rattle.amount.specs.Amounts.{largest}
use Rattle.doubles.specs.Doubles.{last_scale}
use Rattle.doubles.specs.Export.{exported, export_rows, export_said}
use Rattle.doubles.proofs.exports.export.Goals as goal

abbrev rows_at : Amount → List Row
rows_at a = export_rows a.scale (magnitude_of a.coefficient) a.currency

-- what the rows let pass
limits : (a : Amount) → check_of (rows_at a) ≡ Ok tt → (magnitude_of a.coefficient ≤ largest) × (a.scale ≤ last_scale)
unfolding export_rows
limits a e = let none = clear (rows_at a) e in (ltb-false largest (magnitude_of a.coefficient) none.1.0, ltb-false last_scale a.scale none.0)

-- The rows that were asked, of the amount's magnitude, are the amount's.
asked : (a : Amount) (m : ℕ) → m ≡ magnitude_of a.coefficient → check_of (export_rows a.scale m a.currency) ≡ check_of (rows_at a)
asked a m e = ap (λ (m : ℕ). check_of (export_rows a.scale m a.currency)) e

pub quotient-requires : goal.quotient-requires
quotient-requires c =
    let a = c.args.amount in
    let own : SFits w64 a.coefficient = search rules in
    let of_m : c.magnitude.result ≡ magnitude_of a.coefficient = search rules in
    let checked = c.check.ensures ∙ asked a _ of_m in
    rw (to_z-of_z w64 a.coefficient own) (limits a (sym checked ∙ c.in_ok-check.was))

pub returns-in_err-check : goal.returns-in_err-check
unfolding export_said
returns-in_err-check c =
    let a = c.args.amount in
    let of_m : c.magnitude.result ≡ magnitude_of a.coefficient = search rules in
    let checked = c.check.ensures ∙ asked a _ of_m in
    let p = err_from_is_err_and c.from_residual.result c.from_residual.ensures.1 in
    rw (p.1, p.2)
    (sym (refused (gives (exported a.coefficient a.scale)) (rows_at a) c.in_err-check.field-0.0 (sym checked ∙ c.in_err-check.was)))

pub returns : goal.returns
unfolding export_said
returns c =
    let a = c.args.amount in
    let own : SFits w64 a.coefficient = search rules in
    let of_m : c.magnitude.result ≡ magnitude_of a.coefficient = search rules in
    let checked = c.check.ensures ∙ asked a _ of_m in
    ap gives (c.quotient.ensures ∙ ap (λ (z : ℤ). exported z a.scale) (to_z-of_z w64 a.coefficient own))
    ∙ sym (passed (gives (exported a.coefficient a.scale)) (rows_at a) (sym checked ∙ c.in_ok-check.was))
