-- Demand 3 of the mission, for any history of postings, refunds and refused calls on a card's first book, an opening's or a new card's: what a
-- history is, and what is promised of it. "Demand 3 then speaks of each card by itself". The theorem is proofs/Demand3.antt; a history over
-- cards is in Quarter.antt. Assumes nothing.
use Rattle.std.specs.Prelude.{◌≡◌, List, [], ◌∷◌, ℕ, ◌+◌, ◌-◌, ◌*◌, ◌/◌, ◌≤◌, get_or}
use Rattle.refusal.specs.Rows.{Said, gives, refuses}
use Rattle.whole.specs.Sums.{sum_of}
use Rattle.amount.specs.declared.Amount.{Amount}
use Rattle.currency.specs.declared.Currency.{Currency}
use Rattle.units.specs.Rule.{totals}
use Rattle.book.specs.declared.Book.{Book}
use Rattle.book.specs.declared.Moved.{Moved}
use Rattle.book.specs.Books.{zeros}
use Rattle.book.specs.Moves.{net_of, units_of, post_said, refund_said, Posts, Refunds, open_said}
use Rattle.book.specs.Cards.{card_said, Cards}

-- place by place, the sum of two lists
unfoldable pub plus_of : List ℕ → List ℕ → List ℕ
plus_of [] ys = ys
plus_of (x ∷ xs) [] = x ∷ xs
plus_of (x ∷ xs) (y ∷ ys) = (x + y) ∷ plus_of xs ys

-- a card's first book: an accepted opening's, or an accepted new card's
pub data Begins : Book → Type 0 where
  opened_by : (c : Currency) (ws : List ℕ) (b : Book) → open_said c ws ≡ gives b → Begins b
  carded_by : (old : Book) (ws : List ℕ) (b : Book) → card_said old ws ≡ gives b → Begins b

-- A history on a card: any calls with any amounts, accepted or refused, and refused new cards, each given the book that the last one
-- returned. It ends with a book, with what each partner was paid, and with what was taken back from each. Of a call it knows nothing but its promise.
pub data History (opened : Book) : (book : Book) (paid taken : List ℕ) → Type 0 where
  none : History opened opened zeros zeros
  posted : {b : Book} {paid taken : List ℕ} → History opened b paid taken → (a : Amount) (r : Moved) → Posts b a r
      → History opened r.book (plus_of paid r.payouts) taken
  refunded : {b : Book} {paid taken : List ℕ} → History opened b paid taken → (a : Amount) (r : Moved) → Refunds b a r
      → History opened r.book paid (plus_of taken r.payouts)
  uncarded : {b : Book} {paid taken : List ℕ} → History opened b paid taken → (ws : List ℕ) (r : Moved) → Cards b ws r
      → (n k : ℕ) → card_said b ws ≡ refuses n k → History opened r.book (plus_of paid r.payouts) taken

-- the units of a call that is accepted; none where it is refused
abbrev pub accepted_of : Said ℕ → ℕ → ℕ
accepted_of (gives n) units = units
accepted_of (refuses number blamed) units = 0

-- the accepted postings of a history, added, and its accepted refunds
unfoldable pub postings : {opened b : Book} {paid taken : List ℕ} → History opened b paid taken → ℕ
postings none = 0
postings (posted {b = b} h a r p) = postings h + accepted_of (post_said b a) (units_of a)
postings (refunded h a r p) = postings h
postings (uncarded h ws r p n k e) = postings h

unfoldable pub refunds : {opened b : Book} {paid taken : List ℕ} → History opened b paid taken → ℕ
refunds none = 0
refunds (posted h a r p) = refunds h
refunds (refunded {b = b} h a r p) = refunds h + accepted_of (refund_said b a) (units_of a)
refunds (uncarded h ws r p n k e) = refunds h

-- the running total of the partner at place i: what it was paid, less what was taken back
abbrev pub running : (paid taken : List ℕ) (i : ℕ) → ℕ
running paid taken i = get_or paid i 0 - get_or taken i 0

-- the exact share N x weight / W of the partner at place i, rounded down and rounded up
abbrev pub rounded_down : Book → ℕ → ℕ
rounded_down b i = net_of b * get_or b.weights i 0 / sum_of b.weights

abbrev pub rounded_up : Book → ℕ → ℕ
rounded_up b i = (net_of b * get_or b.weights i 0 + (sum_of b.weights - 1)) / sum_of b.weights

-- after each call: "every running total is between N x weight / W rounded down and rounded up, the totals add to N, ... and they are
-- those of document 01's rule"; nothing was taken back that had not been paid
pub record Kept (b : Book) (paid taken : List ℕ) : Type 0 where
  pub covered : (i : ℕ) → get_or taken i 0 ≤ get_or paid i 0
  pub at_least : (i : ℕ) → rounded_down b i ≤ running paid taken i
  pub at_most : (i : ℕ) → running paid taken i ≤ rounded_up b i
  pub added : sum_of paid ≡ sum_of taken + net_of b
  pub by_rule : (i : ℕ) → running paid taken i ≡ get_or (totals b.weights (net_of b)) i 0
