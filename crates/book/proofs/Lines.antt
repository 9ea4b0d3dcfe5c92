-- Document 01's lines on the book, and Ask 9's, of the definitions. Each computes. Assumes nothing.
use Rattle.std.specs.Prelude.{Ok}
use mathlib.Core.Path.{◌≡◌, refl}
use mathlib.Core.List.{List, [], ◌∷◌, ◌++◌}
use Prim.Native.Nat.{ℕ, ◌-◌}
use lib.IntN.{pos}
use lib.ListN.{length, replicate}
use Rattle.refusal.specs.Rows.{gives, refuses}
use Rattle.whole.specs.Sums.{sum_of}
use Rattle.amount.specs.declared.Amount.{Amount}
use Rattle.currency.specs.declared.Currency.{Currency}
use Rattle.amount.specs.Amounts.{largest}
use Rattle.currency.specs.Digits.{not_own_digits}
use Rattle.currency.specs.Table.{line_of}
use Rattle.units.specs.Rule.{may_take, due, best_of, taker_of, totals}
use Rattle.book.specs.declared.Book.{Book}
use Rattle.book.specs.declared.Moved.{Moved}
use Rattle.book.specs.Settled.{above, below, some_of, added_to}
use Rattle.book.specs.Books.{partners, unsettled, weight_rows, with_book}
use Rattle.book.specs.Moves.{move_rows, post_said, refund_said, next_book, less_of, paid_of, taken_of, open_said, open_book, totals_said}
use Rattle.book.specs.Cards.{new_card, card_said}
use Rattle.book.specs.History.{plus_of, History, none, posted, refunded}

abbrev pub euro : Currency
euro = record { 0 = 0 }

-- so many cents
abbrev pub cents : ℕ → Amount
cents n = record { currency = euro; scale = 2; coefficient = pos n }

-- sixteen places
abbrev pub sixteen : List ℕ → List ℕ
sixteen xs = xs ++ replicate (partners - length xs) 0

-- "Book 5, 3, 2" at a net total
abbrev pub book532 : ℕ → Book
book532 n = record { currency = euro; count = 3; weights = sixteen (5 ∷ 3 ∷ 2 ∷ []); net = pos n; card = 1; settled = unsettled }

-- "It opens with N = 0"
pub opens : open_said euro (5 ∷ 3 ∷ 2 ∷ []) ≡ gives (book532 0)
unfolding open_said open_book weight_rows sum_of
opens = refl

-- "post 7 pays 4, 2, 1"
pub post_7 : (post_said (book532 0) (cents 7) ≡ gives 7) × (paid_of (book532 0) (gives 7) ≡ sixteen (4 ∷ 2 ∷ 1 ∷ []))
unfolding post_said move_rows with_book weight_rows above below some_of not_own_digits line_of sum_of paid_of less_of totals taker_of best_of may_take due
post_7 = (refl, refl)

-- "then post 5 pays 2, 2, 1"
pub post_5 : (post_said (book532 7) (cents 5) ≡ gives 12) × (paid_of (book532 7) (gives 12) ≡ sixteen (2 ∷ 2 ∷ 1 ∷ []))
unfolding post_said move_rows with_book weight_rows above below some_of not_own_digits line_of sum_of paid_of less_of totals taker_of best_of may_take due
post_5 = (refl, refl)

-- "then refund 3 takes 1, 1, 1"
pub refund_3 : (refund_said (book532 12) (cents 3) ≡ gives 9) × (taken_of (book532 12) (gives 9) ≡ sixteen (1 ∷ 1 ∷ 1 ∷ []))
unfolding refund_said move_rows with_book weight_rows above below some_of not_own_digits line_of sum_of taken_of less_of totals taker_of best_of may_take due
refund_3 = (refl, refl)

-- each of them hands the book at the new net total back
pub next_532 : (m n : ℕ) → next_book (book532 m) (gives n) ≡ book532 n
unfolding next_book
next_532 m n = refl

-- the three calls are a history, with answers that the promises allow: paid 6, 4, 2 and taken back 1, 1, 1
abbrev answer : ℕ → List ℕ → Moved
answer n payouts = record { outcome = Ok tt; book = book532 n; payouts = sixteen payouts }

pub worked : History (book532 0) (book532 9) (sixteen (6 ∷ 4 ∷ 2 ∷ [])) (sixteen (1 ∷ 1 ∷ 1 ∷ []))
unfolding post_said refund_said move_rows with_book weight_rows above below some_of not_own_digits line_of sum_of next_book paid_of taken_of less_of plus_of totals taker_of best_of may_take due
worked =
    refunded
    (posted (posted none (cents 7) (answer 7 (4 ∷ 2 ∷ 1 ∷ [])) (record { outcome = refl; book = refl; paid = refl }))
    (cents 5) (answer 12 (2 ∷ 2 ∷ 1 ∷ [])) (record { outcome = refl; book = refl; paid = refl }))
    (cents 3) (answer 9 (1 ∷ 1 ∷ 1 ∷ [])) (record { outcome = refl; book = refl; paid = refl })

-- "totals 5, 3, 1"
pub totals_9 : totals_said (book532 9) ≡ gives (sixteen (5 ∷ 3 ∷ 1 ∷ []))
unfolding totals_said with_book weight_rows above below some_of sum_of totals taker_of best_of may_take due
totals_9 = refl

-- "A refund of 10 now: refusal 12"
pub refund_10 : refund_said (book532 9) (cents 10) ≡ refuses 12 0
unfolding refund_said move_rows with_book weight_rows above below some_of not_own_digits line_of sum_of
refund_10 = refl

-- "N = L and a posting of 1: refusal 13"
pub post_past_L : post_said (book532 largest) (cents 1) ≡ refuses 13 0
unfolding post_said move_rows with_book weight_rows above below some_of not_own_digits line_of sum_of
post_past_L = refl

-- "Weight sum 10,000 opens, 10,001: refusal 9"
pub opens_10000 : open_said euro (9999 ∷ 1 ∷ []) ≡ gives (open_book euro (9999 ∷ 1 ∷ []))
unfolding open_said weight_rows sum_of
opens_10000 = refl

pub refused_10001 : open_said euro (10000 ∷ 1 ∷ []) ≡ refuses 9 0
unfolding open_said weight_rows sum_of
refused_10001 = refl

-- Ask 9, on the same book: at N = 9 the running totals are 5, 3, 1, and a card with weights 1, 1, 1 settles them
abbrev pub book111 : ℕ → Book
book111 n =
    record {
      currency = euro;
      count = 3;
      weights = sixteen (1 ∷ 1 ∷ 1 ∷ []);
      net = pos n;
      card = 2;
      settled = pos 5 ∷ pos 3 ∷ pos 1 ∷ replicate 13 (pos 0);
    }

pub card_2 : card_said (book532 9) (1 ∷ 1 ∷ 1 ∷ []) ≡ gives (book111 0)
unfolding card_said new_card with_book weight_rows above below some_of sum_of added_to totals taker_of best_of may_take due
card_2 = refl

-- "(another count: 9)"
pub card_of_two : card_said (book532 9) (1 ∷ 1 ∷ []) ≡ refuses 9 0
unfolding card_said with_book weight_rows above below some_of sum_of
card_of_two = refl

-- "A refund can't reach behind the card's opening: 12 compares with the card's N"
pub refund_behind : refund_said (book111 0) (cents 1) ≡ refuses 12 0
unfolding refund_said move_rows with_book weight_rows above below some_of not_own_digits line_of sum_of
refund_behind = refl

-- "A posting that would take that sum over L gets 13": settled totals of 9, and N = L - 10
pub post_to_L : (post_said (book111 (largest - 10)) (cents 1) ≡ gives (largest - 9)) × (post_said (book111 (largest - 10)) (cents 2) ≡ refuses 13 0)
unfolding post_said move_rows with_book weight_rows above below some_of not_own_digits line_of sum_of
post_to_L = (refl, refl)
