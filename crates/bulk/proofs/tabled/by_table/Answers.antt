-- The table has the cycle's rows, and the book is the given one at the last net total, which an i64 holds. Assumes nothing.
use mathlib.Core.Path.{◌≡◌, sym, ap, subst, ◌∙◌}
use mathlib.Core.Bool.{false}
use native.Mathlib.Omega.{arith}
use lib.IntN.{pos}
use mir.Syntax.{w64}
use mir.Val.{to_z, of_z}
use Rattle.whole.proofs.Laws.{held_within, read_back}
use Rattle.book.specs.Books.{book_at}
use Rattle.book.specs.Moves.{next_book}
use Rattle.cycle.specs.Cycle.{Cycled}
use Rattle.cycle.proofs.Table.{has_rows}
use Rattle.bulk.proofs.tabled.by_table.Goals as goal

pub by_rows-net-requires-clause-cycled : goal.by_rows-net-requires-clause-cycled
by_rows-net-requires-clause-cycled c =
    let a = c.args in
    subst (Cycled a.book.weights a.sum) (sym c.fill_cycle.ensures) (has_rows a.book.weights _ a.sum c.requires.weighed c.requires.weighed.most)

pub returns : goal.returns
unfolding next_book
returns c = let r = c.by_rows-net in
    let signed = c.signed in
    let b = c.args.book in
    let net : to_z w64 (of_z w64 signed.result) ≡ pos r.result =
    read_back signed.result signed.type_inv ∙ signed.ensures ∙ held_within false r.result (omega (arith, r.ensures.0)) in
    record {
      book = c.at_net.ensures ∙ ap (book_at b) net ∙ r.ensures.1.book;
      paid = r.ensures.1.paid;
      said = r.ensures.1.said;
    }
