-- Document 02, Ask 9: a new card. "A contract is renegotiated and the old cents must stay put." Cited by `Book::card`. Assumes nothing.
use Rattle.std.specs.Prelude.{◌≡◌, not, List, [], ◌∷◌, ℕ, ◌+◌, ltb, eqb, pos, length}
use Rattle.refusal.specs.Rows.{Said, gives, refuses, means_outcome, Row, row, first_row}
use Rattle.refusal.specs.declared.Refusal.TheVariants.{Weights}
use Rattle.units.specs.Rule.{totals}
use Rattle.book.specs.declared.Book.{Book}
use Rattle.book.specs.declared.Moved.{Moved}
use Rattle.book.specs.Settled.{added_to}
use Rattle.book.specs.Books.{zeros, cards, net_of, weight_rows, with_book}
use Rattle.book.specs.Moves.{placed_in}

-- "A new card first adds the old card's running totals to them; it then raises the number by 1, sets new weights for the same count ..., starts
-- its N at 0"
abbrev pub card_with : Book → List ℕ → Book
card_with b places =
    record {
      currency = b.currency;
      count = b.count;
      weights = places;
      net = pos 0;
      card = b.card + 1;
      settled = added_to b.settled (totals b.weights (net_of b));
    }

unfoldable pub new_card : Book → List ℕ → Book
new_card b ws = card_with b (placed_in ws)

-- row 9 at the new weights: "(another count: 9)", "Card 1,001 is refused with 9", and the rule of an opening's weights
abbrev pub new_rows : Book → List ℕ → List Row
new_rows b ws = row Weights (not (eqb (length ws) b.count)) ∷ row Weights (ltb cards (b.card + 1)) ∷ weight_rows (length ws) ws

-- a new card takes a book and weights
abbrev pub carded_rows : Book → List ℕ → List Row
carded_rows b ws = with_book b [] [] [] [] (new_rows b ws) []

unfoldable pub card_said : Book → List ℕ → Said Book
card_said b ws = first_row (carded_rows b ws) (gives (new_card b ws))

-- a refused one returns the book it was given, field for field
unfoldable pub card_book : Book → Said Book → Book
card_book b (gives next) = next
card_book b (refuses number blamed) = b

-- the answer: "and pays sixteen zeros"
pub record Cards (b : Book) (ws : List ℕ) (r : Moved) : Type 0 where
  pub outcome : means_outcome r.outcome r.book ≡ card_said b ws
  pub book : r.book ≡ card_book b (card_said b ws)
  pub paid : r.payouts ≡ zeros
