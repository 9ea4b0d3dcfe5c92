-- What is refused in front the rows refuse, and behind it the others decide. Assumes nothing.
use mathlib.Core.Path.{sym, ap, ◌∙◌}
use mathlib.Core.Bool.{Bool}
use borrow.Author.Rules.{rules}
use borrow.Author.Tests.{le-ltb}
use mir.Syntax.{w64}
use mir.Val.{SFits}
use mir.ValLaws.{to_z-of_z}
use Rattle.refusal.specs.Rows.{check_of}
use Rattle.refusal.proofs.Joined.{front_passed}
use Rattle.whole.specs.Whole.{negative}
use Rattle.book.specs.Checks.{contract_rows, last_rows}
use Rattle.book.proofs.Exits.{at_exit}
use Rattle.book.proofs.checks.check_rest.Goals as goal

pub returns-in_err-check_contract : goal.returns-in_err-check_contract
returns-in_err-check_contract c =
    let a = c.args in
    rw (le-ltb _ _ c.if-own-gt-LAST.false)
    (at_exit _ _ (contract_rows a.book.count a.book.weights a.book.card a.past.behind) (last_rows a.broken (negative a.book.net) a.past.negative a.short) _
    c.from_residual.ensures.1 (rw c.from.ensures at c.check_contract.ensures) c.in_err-check_contract.was)

pub returns : goal.returns
returns c =
    let net_fits : SFits w64 c.args.book.net = search rules in
    let a = c.args in
    rw (le-ltb _ _ c.if-own-gt-LAST.false)
    (c.check_last.ensures
    ∙ ap (λ (x : Bool). check_of (last_rows a.broken x a.past.negative a.short)) (c.is_negative.ensures ∙ ap negative (to_z-of_z w64 a.book.net net_fits))
    ∙ sym (front_passed (contract_rows a.book.count a.book.weights a.book.card a.past.behind) (last_rows a.broken (negative a.book.net) a.past.negative a.short)
    (sym (rw c.from.ensures at c.check_contract.ensures) ∙ c.in_ok-check_contract.was)))
