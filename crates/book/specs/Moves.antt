-- Document 01, "The share book": opening, posting, refunding, and the running totals. Who gets which unit is `totals` of `units`.
-- Cited by `Book::open`, `Book::post`, `Book::refund`, `Book::totals`. Assumes nothing.
use Rattle.std.specs.Prelude.{◌≡◌, List, [], ◌∷◌, ◌++◌, ℕ, ◌+◌, ◌-◌, ltb, ℤ, pos, length, replicate, Result}
use Rattle.refusal.specs.Rows.{Said, gives, refuses, means, means_outcome, Row, row, first_row}
use Rattle.refusal.specs.declared.Refusal.{Refusal}
use Rattle.refusal.specs.declared.Refusal.TheVariants.{Scale, Magnitude, Unknown, Differ, Negative, Refund, Limit}
use Rattle.whole.specs.Whole.{negative, magnitude_of}
use Rattle.amount.specs.declared.Amount.{Amount}
use Rattle.currency.specs.declared.Currency.{Currency}
use Rattle.amount.specs.Amounts.{bad_scale, over_l}
use Rattle.currency.specs.Table.{unknown, differ, line_of}
use Rattle.currency.specs.Digits.{not_own_digits}
use Rattle.units.specs.Rule.{totals}
unfoldable pub use Rattle.running.specs.Totals.{less_of}
use Rattle.book.specs.declared.Book.{Book}
use Rattle.book.specs.declared.Moved.{Moved}
use Rattle.book.specs.Books.{partners, zeros, unsettled, settled_sum, book_at, weight_rows, with_book, book_rows}
pub use Rattle.book.specs.Books.{net_of}

-- an amount's A as a number: it isn't negative where a call is accepted
abbrev pub units_of : Amount → ℕ
units_of a = magnitude_of a.coefficient

-- so much in a book's currency, at that currency's own digits
unfoldable pub amount_of : Book → ℤ → Amount
amount_of b c = record { currency = b.currency; scale = (line_of b.currency).digits; coefficient = c }

-- a posting or a refund takes a book and an amount; its last row is its own
unfoldable pub move_rows : Book → Amount → List Row
move_rows b a =
    with_book b
    (row Scale (bad_scale a.scale) ∷ row Scale (not_own_digits a.currency a.scale) ∷ [])
    (row Magnitude (over_l (units_of a)) ∷ [])
    (row Unknown (unknown a.currency) ∷ [])
    (row Differ (differ a.currency b.currency) ∷ [])
    []
    (row Negative (negative a.coefficient) ∷ [])

-- row 13, "the new net total has a magnitude over L", and Ask 9: "A posting that would take that sum over L gets 13", the sum of settled totals
-- and N, which is not below N; row 12, "a refund is greater than the net total", the card's
abbrev pub post_rows : Book → Amount → List Row
post_rows b a = move_rows b a ++ (row Limit (over_l (settled_sum b + (net_of b + units_of a))) ∷ [])

abbrev pub refund_rows : Book → Amount → List Row
refund_rows b a = move_rows b a ++ (row Refund (ltb (net_of b) (units_of a)) ∷ [])

-- "A posting of A pays each partner the difference of its running totals at N + A and N": the new net total, or the refusal
unfoldable pub post_said : Book → Amount → Said ℕ
post_said b a = first_row (post_rows b a) (gives (net_of b + units_of a))

-- "a refund of A takes back the difference at N and N - A"
unfoldable pub refund_said : Book → Amount → Said ℕ
refund_said b a = first_row (refund_rows b a) (gives (net_of b - units_of a))

-- "A refused posting or refund returns the book it was given, field for field"; an accepted one the book at the new net total
unfoldable pub next_book : Book → Said ℕ → Book
next_book b (gives n) = book_at b (pos n)
next_book b (refuses number blamed) = b

-- the payouts of a posting and of a refund to net total n; "with 16 payouts of zero" where it is refused
unfoldable pub paid_of : Book → Said ℕ → List ℕ
paid_of b (gives n) = less_of (totals b.weights n) (totals b.weights (net_of b))
paid_of b (refuses number blamed) = zeros

unfoldable pub taken_of : Book → Said ℕ → List ℕ
taken_of b (gives n) = less_of (totals b.weights (net_of b)) (totals b.weights n)
taken_of b (refuses number blamed) = zeros

-- the answer of a call that says `said`: its outcome, the next book and the payouts
pub record Answers (b : Book) (said : Said ℕ) (payouts : List ℕ) (r : Moved) : Type 0 where
  pub outcome : means_outcome r.outcome (magnitude_of r.book.net) ≡ said
  pub book : r.book ≡ next_book b said
  pub paid : r.payouts ≡ payouts

abbrev pub Posts : Book → Amount → Moved → Type 0
Posts b a r = Answers b (post_said b a) (paid_of b (post_said b a)) r

abbrev pub Refunds : Book → Amount → Moved → Type 0
Refunds b a r = Answers b (refund_said b a) (taken_of b (refund_said b a)) r

-- the book whose every field is 0
unfoldable pub zero_book : Book
zero_book = record { currency = record { 0 = 0 }; count = 0; weights = zeros; net = pos 0; card = 0; settled = unsettled }

-- a list of weights in sixteen places: those past the count 0
abbrev pub placed_in : List ℕ → List ℕ
placed_in ws = ws ++ replicate (partners - length ws) 0

-- "It opens with N = 0": the weights in front, those past the count 0; "a card number from 1 (at the opening)", "settled totals, at first 0"
unfoldable pub open_book : Currency → List ℕ → Book
open_book c ws = record { currency = c; count = length ws; weights = placed_in ws; net = pos 0; card = 1; settled = unsettled }

-- an opening takes a currency and weights: rows 4 and 9
abbrev pub open_rows : Currency → List ℕ → List Row
open_rows c ws = row Unknown (unknown c) ∷ weight_rows (length ws) ws

unfoldable pub open_said : Currency → List ℕ → Said Book
open_said c ws = first_row (open_rows c ws) (gives (open_book c ws))

-- "A refused opening has in the book's place one whose every field is 0": where a caller has such a place
unfoldable pub opened_book : Said Book → Book
opened_book (gives b) = b
opened_book (refuses number blamed) = zero_book

abbrev pub Opens : Currency → List ℕ → Result Book Refusal → Type 0
Opens c ws r = means r ≡ open_said c ws

-- "The running total of a partner at N", of a given book
unfoldable pub totals_said : Book → Said (List ℕ)
totals_said b = first_row (book_rows b) (gives (totals b.weights (net_of b)))

-- sixteen zeros in the place of refused ones, where a caller has such a place
unfoldable pub totals_of : Said (List ℕ) → List ℕ
totals_of (gives ts) = ts
totals_of (refuses number blamed) = zeros

abbrev pub Tallies : Book → Result (List ℕ) Refusal → Type 0
Tallies b r = means r ≡ totals_said b
