-- The amount is the coefficient in the book's currency at its own digits, and what the call is said to be chooses it. Assumes nothing.
use mathlib.Core.Path.{◌≡◌, ap₂, subst}
use borrow.Author.Rules.{rules}
use lib.IntN.{ℤ}
use mir.Syntax.{w64}
use mir.Val.{SFits, to_z, of_z}
use mir.ValLaws.{to_z-of_z}
use Rattle.amount.specs.declared.Amount.{Amount}
use Rattle.currency.specs.declared.Line.{Line}
use Rattle.book.specs.Moves.{amount_of, Posts, Refunds}
use Rattle.bulk.proofs.Call.{call_posts, call_refunds}
use Rattle.bulk.proofs.turns.call.Goals as goal

pub returns-then-refund : goal.returns-then-refund
unfolding amount_of
returns-then-refund c =
    let asked : record { currency = c.args.book.currency; scale = c.line_of-line.result.digits; coefficient = to_z w64 (of_z w64 c.args.coefficient) } ≡ amount_of c.args.book c.args.coefficient =
    let a = c.args in
    let fits : SFits w64 a.coefficient = search rules in
    ap₂ (λ (l : Line) (z : ℤ). record { currency = a.book.currency; scale = l.digits; coefficient = z }) c.line_of-line.ensures (to_z-of_z w64 a.coefficient fits) in
    let l = c in
    let a = l.args in
    call_refunds a.refund a.book a.coefficient c.refund.result c.if-refund.true
    (subst (λ (x : Amount). Refunds a.book x c.refund.result) asked c.refund.ensures)

pub returns-else-refund : goal.returns-else-refund
unfolding amount_of
returns-else-refund c =
    let asked : record { currency = c.args.book.currency; scale = c.line_of-line.result.digits; coefficient = to_z w64 (of_z w64 c.args.coefficient) } ≡ amount_of c.args.book c.args.coefficient =
    let a = c.args in
    let fits : SFits w64 a.coefficient = search rules in
    ap₂ (λ (l : Line) (z : ℤ). record { currency = a.book.currency; scale = l.digits; coefficient = z }) c.line_of-line.ensures (to_z-of_z w64 a.coefficient fits) in
    let l = c in
    let a = l.args in
    call_posts a.refund a.book a.coefficient c.post.result c.if-refund.false
    (subst (λ (x : Amount). Posts a.book x c.post.result) asked c.post.ensures)
