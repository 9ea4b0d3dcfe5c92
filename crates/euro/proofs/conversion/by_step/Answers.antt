-- A refused check is the row that it names, and what passed is the amount converted. Assumes nothing.
use Rattle.std.proofs.lemmas.Result.{err_from_is_err_and}
use mathlib.Core.Path.{◌≡◌, sym, ◌∙◌, ap}
use Prim.Native.Nat.{ℕ}
use borrow.Author.Rules.{rules}
use lib.IntN.{ℤ}
use Rattle.refusal.specs.Rows.{check_of}
use Rattle.refusal.proofs.Check.{passed, refused}
use Rattle.whole.specs.Whole.{magnitude_of}
use Rattle.whole.proofs.Laws.{read_back}
use Rattle.amount.specs.declared.Amount.{Amount}
use Rattle.euro.specs.Conversion.{convert_rows, converted, convert_by_said}
use Rattle.euro.proofs.conversion.by_step.Goals as goal

pub returns-in_err-check : goal.returns-in_err-check
unfolding convert_by_said
returns-in_err-check c =
    let given : ℤ → Amount = λ z. record { currency = c.args.from; scale = c.args.scale; coefficient = z } in
    let a = c.args in
    let of_m : c.magnitude.result ≡ magnitude_of a.coefficient = search rules in
    let checked = c.check.ensures ∙ ap (λ (m : ℕ). check_of (convert_rows a.decimals a.scale m a.from a.to)) of_m in
    let p = err_from_is_err_and c.from_residual.result c.from_residual.ensures.1 in
    rw (p.1, p.2)
    (sym
    (refused (converted a.decimals (given a.coefficient) a.to)
    (convert_rows a.decimals a.scale (magnitude_of a.coefficient) a.from a.to)
    c.in_err-check.field-0.0 (sym checked ∙ c.in_err-check.was)))

pub returns : goal.returns
unfolding convert_by_said
returns c =
    let given : ℤ → Amount = λ z. record { currency = c.args.from; scale = c.args.scale; coefficient = z } in
    let a = c.args in
    let of_m : c.magnitude.result ≡ magnitude_of a.coefficient = search rules in
    let checked = c.check.ensures ∙ ap (λ (m : ℕ). check_of (convert_rows a.decimals a.scale m a.from a.to)) of_m in
    c.accepted.ensures
    ∙ ap (λ (z : ℤ). converted a.decimals (given z) a.to) (read_back a.coefficient c.ranges.coefficient.sfits)
    ∙ sym (passed (converted a.decimals (given a.coefficient) a.to)
    (convert_rows a.decimals a.scale (magnitude_of a.coefficient) a.from a.to)
    (sym checked ∙ c.in_ok-check.was))
