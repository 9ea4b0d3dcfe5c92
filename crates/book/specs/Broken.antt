-- Document 01, row 9 of the table of refusals at a given book, as it is worded: "weights (never negative) break their rule, in number, in sum
-- or (a book's) past the count"; and document 02, Ask 9: "a given book whose card number is outside 1 to 1,000 or that has a settled total past
-- its count". That a call says 9 for it is in proofs/Broken.antt. Assumes nothing.
use Rattle.std.specs.Prelude.{ℕ, ◌≤◌, ◌<◌, pos, get_or}
use Rattle.whole.specs.Sums.{sum_of}
use Rattle.whole.specs.Whole.{magnitude_of}
use Rattle.book.specs.declared.Book.{Book}
use Rattle.book.specs.Books.{partners, weight_sum, cards}

pub data BreaksRule (b : Book) : Type 0 where
  -- a count that isn't 1 to 16
  nobody : b.count < 1 → BreaksRule b
  many : partners < b.count → BreaksRule b
  -- a weight past the count
  past : (i : ℕ) → b.count ≤ i → 0 < get_or b.weights i 0 → BreaksRule b
  -- a sum that isn't 1 to 10,000
  light : sum_of b.weights < 1 → BreaksRule b
  heavy : weight_sum < sum_of b.weights → BreaksRule b
  -- a card number that isn't 1 to 1,000
  unnumbered : b.card < 1 → BreaksRule b
  beyond : cards < b.card → BreaksRule b
  -- a settled total past the count
  settled_past : (i : ℕ) → b.count ≤ i → 0 < magnitude_of (get_or b.settled i (pos 0)) → BreaksRule b
