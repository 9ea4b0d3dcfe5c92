-- A refused mode is row 1, a refused check is the row that it names, and so are a basis and a day count that are refused; what passed is the
-- interest by the principal's sign and magnitude and by the days, asked against row 13. Assumes nothing.
use Rattle.std.proofs.lemmas.Result.{err_from_is_err_and}
use mathlib.Core.Path.{◌≡◌, sym, ◌∙◌, ap}
use Prim.Native.Nat.{ℕ}
use borrow.Author.Rules.{rules}
use mir.Syntax.{w64}
use mir.Val.{to_z, of_z}
use Rattle.whole.specs.Whole.{negative, magnitude_of}
use Rattle.whole.proofs.Laws.{read_back}
use Rattle.rounding.specs.Modes.{rule_of}
use Rattle.rounding.proofs.Chosen.{mode_refused}
use Rattle.calendar.specs.DaysSaid.{days_said}
use Rattle.calendar.proofs.BasisNumbers.{no_basis, own_number}
use Rattle.interest.specs.Interest.{interest_rows, interest_made, interest_said}
use Rattle.interest.specs.Accrual.{accrued_to}
use Rattle.interest.proofs.Accrued.{accrues, said_refused, said_no_days, said_made, with_mode}
use Rattle.interest.proofs.accrual.interest.Goals as goal

pub returns-in_err-rule : goal.returns-in_err-rule
unfolding interest_said
returns-in_err-rule c =
    let a = c.args in
    let x = a.principal in
    let p = err_from_is_err_and c.from_residual.result c.from_residual.ensures.1 in
    rw (p.1, p.2)
    (sym
    (mode_refused (interest_made (rule_of a.mode) x a.rate a.basis a.start a.end)
    (interest_rows x.scale (magnitude_of x.coefficient) x.currency a.rate a.basis a.start a.end) a.mode
    c.in_err-rule.field-0.0 (sym c.try_from.ensures ∙ c.in_err-rule.was)))

pub accrued-requires : goal.accrued-requires
accrued-requires c =
    let a = c.args in
    let is = own_number a.basis c.in_ok-basis.basis (sym c.try_from-2.ensures ∙ c.in_ok-basis.was) in
    accrues a.principal.scale c.magnitude-m.result a.principal.currency a.rate a.basis a.start a.end c.in_ok-days.days
    (sym c.check.ensures ∙ c.in_ok-check.was) (c.in_ok-days.ensures ∙ ap (λ (n : ℕ). days_said n a.start a.end) is)

pub returns-in_err-check : goal.returns-in_err-check
returns-in_err-check c =
    let a = c.args in
    let of_m : c.magnitude-m.result ≡ magnitude_of a.principal.coefficient = search rules in
    let f = c.from_residual-in_err-check in
    let p = err_from_is_err_and f.result f.ensures.1 in
    rw (p.1, p.2)
    (said_refused c.in_ok-rule.rule a.principal a.rate a.basis a.start a.end c.magnitude-m.result of_m c.in_err-check.field-0.0
    (sym c.check.ensures ∙ c.in_err-check.was)
    ∙ with_mode c.in_ok-rule.rule a.principal a.rate a.basis a.start a.end a.mode (sym c.try_from.ensures ∙ c.in_ok-rule.was))

pub returns-in_err-basis : goal.returns-in_err-basis
returns-in_err-basis c =
    let a = c.args in
    let of_m : c.magnitude-m.result ≡ magnitude_of a.principal.coefficient = search rules in
    let f = c.from_residual-in_err-basis in
    let p = err_from_is_err_and f.result f.ensures.1 in
    let r = c.in_err-basis.field-0.0 in
    rw (p.1, p.2)
    (said_no_days c.in_ok-rule.rule a.principal a.rate a.basis a.start a.end c.magnitude-m.result of_m r (sym c.check.ensures ∙ c.in_ok-check.was)
    (sym (no_basis a.basis a.start a.end r (sym c.try_from-2.ensures ∙ c.in_err-basis.was)))
    ∙ with_mode c.in_ok-rule.rule a.principal a.rate a.basis a.start a.end a.mode (sym c.try_from.ensures ∙ c.in_ok-rule.was))

pub returns-in_err-days : goal.returns-in_err-days
returns-in_err-days c =
    let a = c.args in
    let of_m : c.magnitude-m.result ≡ magnitude_of a.principal.coefficient = search rules in
    let is = own_number a.basis c.in_ok-basis.basis (sym c.try_from-2.ensures ∙ c.in_ok-basis.was) in
    let f = c.from_residual-in_err-days in
    let p = err_from_is_err_and f.result f.ensures.1 in
    rw (p.1, p.2)
    (said_no_days c.in_ok-rule.rule a.principal a.rate a.basis a.start a.end c.magnitude-m.result of_m
    c.in_err-days.field-0.0 (sym c.check.ensures ∙ c.in_ok-check.was) (c.in_err-days.ensures ∙ ap (λ (n : ℕ). days_said n a.start a.end) is)
    ∙ with_mode c.in_ok-rule.rule a.principal a.rate a.basis a.start a.end a.mode (sym c.try_from.ensures ∙ c.in_ok-rule.was))

pub returns : goal.returns
returns c =
    let a = c.args in
    let of_m : c.magnitude-m.result ≡ magnitude_of a.principal.coefficient = search rules in
    let of_sign : c.is_negative-negative.result ≡ negative a.principal.coefficient = search rules in
    let is = own_number a.basis c.in_ok-basis.basis (sym c.try_from-2.ensures ∙ c.in_ok-basis.was) in
    let n = c.accrued.result in
    c.within.ensures
    ∙ said_made c.in_ok-rule.rule a.principal a.rate a.basis a.start a.end c.magnitude-m.result of_m
    c.is_negative-negative.result of_sign (to_z w64 (of_z w64 n)) c.in_ok-days.days
    (read_back n c.accrued.type_inv ∙ c.accrued.ensures
    ∙ ap (λ (b : ℕ). accrued_to c.in_ok-rule.rule c.is_negative-negative.result c.magnitude-m.result a.rate b c.in_ok-days.days) is)
    (sym c.check.ensures ∙ c.in_ok-check.was) (c.in_ok-days.ensures ∙ ap (λ (n : ℕ). days_said n a.start a.end) is)
    ∙ with_mode c.in_ok-rule.rule a.principal a.rate a.basis a.start a.end a.mode (sym c.try_from.ensures ∙ c.in_ok-rule.was)
