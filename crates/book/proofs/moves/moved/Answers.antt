-- Both running totals are the rule's, the greater at the greater net total, and an i64 holds the new net total. Assumes nothing.
use mathlib.Core.Path.{◌≡◌, ap, ◌∙◌}
use mathlib.Core.Bool.{false}
use native.Mathlib.Omega.{arith}
use lib.IntN.{pos}
use mir.Syntax.{w64}
use mir.Val.{to_z, of_z}
use Rattle.refusal.specs.Rows.{gives}
use Rattle.whole.specs.Whole.{magnitude_of}
use Rattle.whole.proofs.Laws.{held_within, read_back}
use Rattle.running.proofs.Total.{between_are}
use Rattle.book.specs.declared.Book.{Book}
use Rattle.book.specs.Books.{book_at}
use Rattle.book.specs.Moves.{next_book}
use Rattle.book.proofs.moves.moved.Goals as goal

pub returns : goal.returns
unfolding next_book
returns c =
    let b = c.args.book in
    let net : to_z w64 (of_z w64 c.signed.result) ≡ pos c.args.net =
    read_back c.signed.result c.signed.type_inv ∙ c.signed.ensures ∙ held_within false c.args.net (omega (arith, c.requires.2)) in
    let next = c.at_net-next.ensures ∙ ap (book_at b) net in
    record {
      outcome = ap (λ (x : Book). gives (magnitude_of x.net)) next;
      book = next;
      paid = c.units_between-payouts.ensures ∙ between_are b.weights c.requires.0 c.requires.1 c.args.low c.args.high;
    }
