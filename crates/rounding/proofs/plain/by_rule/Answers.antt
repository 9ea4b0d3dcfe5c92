-- A refused check is the row that it names, and what passed is the rounded quotient. Assumes nothing.
use Rattle.std.specs.Prelude.{Err}
use Rattle.std.proofs.lemmas.Result.{err_from_is_err_and}
use mathlib.Core.Path.{◌≡◌, sym, ◌∙◌, ap}
use Prim.Native.Nat.{ℕ, ◌*◌}
use Rattle.refusal.specs.Rows.{means, gives, check_of, first_row}
use Rattle.refusal.proofs.Check.{passed, refused}
use Rattle.whole.specs.Whole.{signed_of, held_signed}
use Rattle.whole.proofs.Laws.{magnitude_signed, read_back}
use Rattle.rounding.specs.Leaf.{rounded_magnitude}
use Rattle.rounding.specs.Found.{found_quotient}
use Rattle.rounding.specs.Plain.{plain_rows, behind_mode}
use Rattle.rounding.proofs.PlainRows.{same_rows, held_quotient}
use Rattle.rounding.proofs.plain.by_rule.Goals as goal

pub returns-in_err-check : goal.returns-in_err-check
returns-in_err-check c =
    let told : let a = c.args in c.check.result ≡ check_of (plain_rows a.a a.b a.d (found_quotient a.rule a.negative a.a a.b a.d)) = let a = c.args in c.check.ensures ∙ ap (λ (q : ℕ). check_of (plain_rows a.a a.b a.d q)) c.quotient-found.ensures in
    let said : let a = c.args in let q = signed_of a.negative (rounded_magnitude a.rule a.negative (a.a * a.b) a.d) in first_row (plain_rows a.a a.b a.d (found_quotient a.rule a.negative a.a a.b a.d)) (gives q) ≡ behind_mode a.a a.b a.d q = let a = c.args in let m = rounded_magnitude a.rule a.negative (a.a * a.b) a.d in let q = signed_of a.negative m in same_rows a.rule a.negative a.a a.b a.d (gives q) ∙ ap (λ (x : ℕ). first_row (plain_rows a.a a.b a.d x) (gives q)) (sym (magnitude_signed a.negative m)) in
    let k = c in
    let a = k.args in
    let q = signed_of a.negative (rounded_magnitude a.rule a.negative (a.a * a.b) a.d) in
    let p = err_from_is_err_and c.from_residual.result c.from_residual.ensures.1 in
    ap means (p.1 ∙ ap Err p.2) ∙ sym
    (refused (gives q) (plain_rows a.a a.b a.d (found_quotient a.rule a.negative a.a a.b a.d))
    c.in_err-check.field-0.0 (sym told ∙ c.in_err-check.was))
    ∙ said

pub returns : goal.returns
returns c =
    let told : let a = c.args in c.check.result ≡ check_of (plain_rows a.a a.b a.d (found_quotient a.rule a.negative a.a a.b a.d)) = let a = c.args in c.check.ensures ∙ ap (λ (q : ℕ). check_of (plain_rows a.a a.b a.d q)) c.quotient-found.ensures in
    let said : let a = c.args in let q = signed_of a.negative (rounded_magnitude a.rule a.negative (a.a * a.b) a.d) in first_row (plain_rows a.a a.b a.d (found_quotient a.rule a.negative a.a a.b a.d)) (gives q) ≡ behind_mode a.a a.b a.d q = let a = c.args in let m = rounded_magnitude a.rule a.negative (a.a * a.b) a.d in let q = signed_of a.negative m in same_rows a.rule a.negative a.a a.b a.d (gives q) ∙ ap (λ (x : ℕ). first_row (plain_rows a.a a.b a.d x) (gives q)) (sym (magnitude_signed a.negative m)) in
    let k = c in
    let a = k.args in
    let q = signed_of a.negative (rounded_magnitude a.rule a.negative (a.a * a.b) a.d) in
    let clear = sym told ∙ c.in_ok-check.was in
    ap gives
    (read_back c.signed.result c.signed.type_inv ∙ c.signed.ensures ∙ ap (held_signed a.negative) k.quotient-found.ensures
    ∙ held_quotient a.rule a.negative a.a a.b a.d clear)
    ∙ sym (passed (gives q) (plain_rows a.a a.b a.d (found_quotient a.rule a.negative a.a a.b a.d)) clear)
    ∙ said
