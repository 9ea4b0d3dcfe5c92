-- What passed is within the limits of the running totals. Assumes nothing.
use Rattle.std.specs.Prelude.{Ok}
use mathlib.Core.Path.{◌≡◌, sym, ap, ◌∙◌}
use Rattle.refusal.specs.Rows.{gives, check_of}
use Rattle.refusal.proofs.Check.{passed}
use Rattle.units.specs.Rule.{totals}
use Rattle.running.proofs.Total.{totals_are}
use Rattle.book.specs.Books.{net_of, book_rows}
use Rattle.book.specs.Moves.{totals_said}
use Rattle.book.proofs.Given.{book_alone, book_fit}
use Rattle.book.proofs.Exits.{call_exit}
use Rattle.book.proofs.Book.totals.Goals as goal

pub returns-in_err-check : goal.returns-in_err-check
unfolding totals_said
returns-in_err-check c =
    let b = c.args.self in
    call_exit (gives (totals b.weights (net_of b))) _ _ (book_rows b) _ c.from_residual.ensures.1 (c.check.ensures ∙ book_alone b) c.in_err-check.was

pub returns : goal.returns
unfolding totals_said
returns c =
    let b = c.args.self in
    let clear : check_of (book_rows b) ≡ Ok tt = sym (book_alone b) ∙ sym c.check.ensures ∙ c.in_ok-check.was in
    let fit = book_fit b clear in
    ap gives (c.totals_at-totals.ensures ∙ totals_are b.weights fit.1 fit.2 _ ∙ ap (totals b.weights) c.net_of.ensures)
    ∙ sym (passed (gives (totals b.weights (net_of b))) (book_rows b) clear)
