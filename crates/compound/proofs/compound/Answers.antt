-- A refused check leaves the list as it stood; what passed is a principal within L that has room for its rows. Assumes nothing.
use Rattle.std.proofs.lemmas.Result.{err_from_is_err_and}
use mathlib.Core.Path.{◌≡◌, sym, ◌∙◌, ap₂, subst}
use mathlib.Core.Bool.{Bool}
use Prim.Native.Nat.{ℕ}
use borrow.Author.Rules.{rules}
use lib.ListN.{length}
use Rattle.std.specs.Prelude.{List, ℤ}
use Rattle.refusal.specs.Rows.{check_of}
use Rattle.whole.specs.Whole.{negative, magnitude_of}
use Rattle.amount.specs.declared.Amount.{Amount}
use Rattle.compound.specs.Table.{row_count, taken_rows}
use Rattle.compound.specs.Parts.{Writes}
use Rattle.compound.proofs.Answered.{taken, answers_refused, answers_written}
use Rattle.compound.proofs.compound.Goals as goal

-- The rows that were asked, of the principal's sign and magnitude, are the principal's.
asked : (principal : Amount) (rate periods : ℕ) (out : List ℤ) (s : Bool) (m : ℕ) → s ≡ negative principal.coefficient → m ≡ magnitude_of principal.coefficient → check_of (taken_rows principal.scale m principal.currency s rate periods (length out)) ≡ check_of (taken principal rate periods out)
asked principal rate periods out s m e f =
    ap₂ (λ (s : Bool) (m : ℕ). check_of (taken_rows principal.scale m principal.currency s rate periods (length out))) e f

pub returns-in_err-check : goal.returns-in_err-check
returns-in_err-check c =
    let a = c.args in
    let of_sign : c.is_negative-negative.result ≡ negative a.principal.coefficient = search rules in
    let of_m : c.magnitude-m.result ≡ magnitude_of a.principal.coefficient = search rules in
    let checked = c.check.ensures ∙ asked a.principal a.rate a.periods a.out.now _ _ of_sign of_m in
    let all = answers_refused a.principal a.rate a.periods a.out.now c.in_err-check.field-0.0 (sym checked ∙ c.in_err-check.was) in
    let p = err_from_is_err_and c.from_residual.result c.from_residual.ensures.1 in
    rw (p.1, p.2)
    (record { said = all.0; places = all.1 })

pub returns : goal.returns
returns c =
    let a = c.args in
    let w = c.write in
    let of_sign : c.is_negative-negative.result ≡ negative a.principal.coefficient = search rules in
    let of_m : c.magnitude-m.result ≡ magnitude_of a.principal.coefficient = search rules in
    let checked = c.check.ensures ∙ asked a.principal a.rate a.periods a.out.now _ _ of_sign of_m in
    let all = answers_written a.principal a.rate a.periods a.out.now w.result w.new.out
    (sym checked ∙ c.in_ok-check.was)
    (subst (λ (m : ℕ). Writes m a.rate (row_count a.periods) a.out.now w.result w.new.out) of_m w.ensures) in record {
      said = all.0;
      places = all.1;
    }
