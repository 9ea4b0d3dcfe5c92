-- The rows that the parts of a check look at, by plain numbers: src/checks.rt puts them together. That they are a call's rows is in
-- proofs/Answered.antt. Assumes nothing.
use Rattle.std.specs.Prelude.{◌≡◌, Bool, true, false, not, cond, List, [], ◌∷◌, ◌++◌, ℕ, ◌+◌, ◌≤◌, ◌<◌, ltb, eqb, ℤ, pos, length, get_or, Result, Ok, Err, ⊤}
use Rattle.refusal.specs.Rows.{Said, gives, Row, row, first_row, check_of}
use Rattle.refusal.specs.declared.Refusal.TheVariants.{Scale, Magnitude, Unknown, Differ, Weights, Negative, Room}
use Rattle.whole.specs.Sums.{sum_of}
use Rattle.whole.specs.Whole.{negative, magnitude_of}
use Rattle.whole.specs.Lists.{filled}
use Rattle.amount.specs.declared.Amount.{Amount}
use Rattle.currency.specs.declared.Currency.{Currency}
use Rattle.amount.specs.Amounts.{largest, bad_scale, over_l}
use Rattle.currency.specs.Table.{unknown, differ}
use Rattle.currency.specs.Digits.{not_own_digits}
use Rattle.book.specs.declared.Book.{Book}
use Rattle.book.specs.declared.Past.{Past}
use Rattle.book.specs.Settled.{above, any_negative, any_over, past_count, sum_over}
use Rattle.refusal.specs.declared.Refusal.{Refusal}
use Rattle.book.specs.Books.{partners, weight_sum, cards, net_of, settled_sum, weight_rows, card_rows}

-- row 3 at settled totals, beside a net total
abbrev pub settled_rows : ℤ → List ℤ → List Row
settled_rows net zs = row Magnitude (any_over zs) ∷ row Magnitude (sum_over (net ∷ zs)) ∷ []

-- what the rows behind need to know of them, beside a count
abbrev pub past_of : ℕ → List ℤ → Past
past_of count zs = record { behind = past_count count zs; negative = any_negative zs; sum = above zs }

-- that, or the refusal
abbrev pub settled_said : ℕ → ℤ → List ℤ → Said Past
settled_said count net zs = first_row (settled_rows net zs) (gives (past_of count zs))

-- rows 2 and 3 at an amount (its scale, magnitude and currency) and at a net total's magnitude
abbrev pub size_rows : (scale m : ℕ) (currency : Currency) (n : ℕ) → List Row
size_rows scale m currency n = row Scale (bad_scale scale) ∷ row Scale (not_own_digits currency scale) ∷ row Magnitude (over_l m) ∷ row Magnitude (over_l n) ∷ []

-- rows 4 and 5 at an amount's currency and at a book's own
abbrev pub currency_rows : (currency own : Currency) → List Row
currency_rows currency own = row Unknown (unknown currency) ∷ row Unknown (unknown own) ∷ row Differ (differ currency own) ∷ []

-- row 9 at a given book
abbrev pub contract_rows : (count : ℕ) (ws : List ℕ) (card : ℕ) (behind : Bool) → List Row
contract_rows count ws card behind = weight_rows count ws ++ card_rows card behind

-- row 10 at an amount and at a given book
abbrev pub sign_rows : (amount net settled : Bool) → List Row
sign_rows amount net settled = row Negative amount ∷ row Negative net ∷ row Negative settled ∷ []

-- behind the weights and the card of a book with lists
abbrev pub last_rows : (broken net settled short : Bool) → List Row
last_rows broken net settled short = row Weights broken ∷ row Negative net ∷ row Negative settled ∷ row Room short ∷ []

-- rows 4, 5, 9 and 10 of a posting or a refund
abbrev pub behind_rows : Book → Past → Amount → List Row
behind_rows b past a =
    currency_rows a.currency b.currency
    ++ (contract_rows b.count b.weights b.card past.behind ++ sign_rows (negative a.coefficient) (negative b.net) past.negative)

-- row 4 at a book with lists, and the rows behind it
abbrev pub rest_rows : Book → Past → (broken short : Bool) → List Row
rest_rows b past broken short =
    row Unknown (unknown b.currency) ∷ (contract_rows b.count b.weights b.card past.behind ++ last_rows broken (negative b.net) past.negative short)

-- a check that refuses
abbrev pub refused_in : Result ⊤ Refusal → Bool
refused_in (Ok tt) = false
refused_in (Err r) = true

-- a new card's list of weights holds row 9
unfoldable pub breaks_by : (count card : ℕ) → List ℕ → Bool
breaks_by count card ws = cond (not (eqb (length ws) count)) true (cond (ltb cards (card + 1)) true (refused_in (check_of (weight_rows (length ws) ws))))

-- a book that a new card may follow
pub record Ready (b : Book) : Type 0 where
  pub some : 1 ≤ sum_of b.weights
  pub most : sum_of b.weights ≤ weight_sum
  pub signs : any_negative b.settled ≡ false
  pub limit : settled_sum b + net_of b ≤ largest
  pub further : b.card < cards

-- running totals added to settled totals from 0 on, place by place
unfoldable pub added_by : List ℤ → List ℕ → List ℤ
added_by zs ts = filled 0 (λ i. pos (magnitude_of (get_or zs i (pos 0)) + get_or ts i 0)) partners zs
