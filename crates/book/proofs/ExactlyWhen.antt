-- The rows of each call on a book stand in the table's order, so that the one law of "exactly when" holds of each: a call gives number n
-- exactly when a row of n holds and no row that stands before it does. Assumes nothing.
use mathlib.Core.Path.{◌≡◌}
use mathlib.Core.Bool.{Bool}
use mathlib.Core.List.{List}
use mathlib.Core.Logic.{◌↔◌}
use Prim.Native.Nat.{ℕ, ◌+◌, ◌-◌}
use lib.Dec.{T}
use Rattle.refusal.specs.Rows.{Said, refuses, Row, rising, Holds}
use Rattle.refusal.proofs.ExactlyWhen.{Given, NoneBelow, exactly_when}
use Rattle.amount.specs.declared.Amount.{Amount}
use Rattle.currency.specs.declared.Currency.{Currency}
use Rattle.units.specs.Rule.{totals}
use Rattle.book.specs.declared.Book.{Book}
use Rattle.book.specs.Books.{net_of, weight_rows, with_book, book_rows, listed_rows}
use Rattle.book.specs.Moves.{units_of, move_rows, post_rows, refund_rows, post_said, refund_said, open_book, open_rows, open_said, totals_said}
use Rattle.book.specs.Cards.{new_card, carded_rows, card_said}

-- what a call says is number n
abbrev pub Numbered : {A : Type 0} → Said A → ℕ → Type 0
Numbered said n = (blamed : ℕ) × (said ≡ refuses n blamed)

-- each number exactly when the rows say
abbrev pub ExactlyBy : {A : Type 0} → Said A → List Row → Type 0
ExactlyBy said rows = (n : ℕ) → Numbered said n ↔ (Holds n rows × NoneBelow n rows)

module _ (b : Book) (a : Amount) where
  post_rises : T (rising (post_rows b a))
  unfolding move_rows with_book weight_rows
  post_rises = tt

  refund_rises : T (rising (refund_rows b a))
  unfolding move_rows with_book weight_rows
  refund_rises = tt

  pub post_exactly_when : ExactlyBy (post_said b a) (post_rows b a)
  unfolding post_said Given
  post_exactly_when n = exactly_when (net_of b + units_of a) n (post_rows b a) post_rises

  pub refund_exactly_when : ExactlyBy (refund_said b a) (refund_rows b a)
  unfolding refund_said Given
  refund_exactly_when n = exactly_when (net_of b - units_of a) n (refund_rows b a) refund_rises

module _ (c : Currency) (ws : List ℕ) where
  open_rises : T (rising (open_rows c ws))
  unfolding weight_rows
  open_rises = tt

  pub open_exactly_when : ExactlyBy (open_said c ws) (open_rows c ws)
  unfolding open_said Given
  open_exactly_when n = exactly_when (open_book c ws) n (open_rows c ws) open_rises

module _ (b : Book) where
  book_rises : T (rising (book_rows b))
  unfolding with_book weight_rows
  book_rises = tt

  card_rises : (ws : List ℕ) → T (rising (carded_rows b ws))
  unfolding with_book weight_rows
  card_rises ws = tt

  pub totals_exactly_when : ExactlyBy (totals_said b) (book_rows b)
  unfolding totals_said Given
  totals_exactly_when n = exactly_when (totals b.weights (net_of b)) n (book_rows b) book_rises

  pub card_exactly_when : (ws : List ℕ) → ExactlyBy (card_said b ws) (carded_rows b ws)
  unfolding card_said Given
  card_exactly_when ws n = exactly_when (new_card b ws) n (carded_rows b ws) (card_rises ws)

  -- a book with lists
  pub listed_rises : (broken short : Bool) → T (rising (listed_rows b broken short))
  unfolding listed_rows with_book weight_rows
  listed_rises broken short = tt
