-- An unknown basis is row 6, which no other row precedes; a known one has its own number. Assumes nothing.
use Rattle.std.specs.Prelude.{Err}
use Rattle.std.proofs.lemmas.Result.{err_from_is_err_and}
use mathlib.Core.Path.{sym, ◌∙◌, ap}
use Prim.Native.Nat.{ℕ}
use Rattle.refusal.specs.Rows.{means}
use Rattle.calendar.specs.DaysSaid.{days_said}
use Rattle.calendar.proofs.BasisNumbers.{no_basis, own_number}
use Rattle.calendar.proofs.days.day_count.Goals as goal

pub returns-in_err-basis : goal.returns-in_err-basis
returns-in_err-basis c =
    let p = err_from_is_err_and c.from_residual.result c.from_residual.ensures.1 in
    let a = c.args in
    ap means (p.1 ∙ ap Err p.2) ∙ sym (no_basis a.basis a.start a.end c.in_err-basis.field-0.0 (sym c.try_from.ensures ∙ c.in_err-basis.was))

pub returns : goal.returns
returns c =
    let a = c.args in
    c.days_between.ensures ∙ ap (λ (n : ℕ). days_said n a.start a.end) (own_number a.basis c.in_ok-basis.basis (sym c.try_from.ensures ∙ c.in_ok-basis.was))
