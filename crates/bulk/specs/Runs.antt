-- A run of calls on one book: "each call's payouts, number and book are just those that `post` or `refund` would have given, one after
-- the other". Cited by `run`. Assumes nothing.
use Rattle.std.specs.Prelude.{◌≡◌, Bool, true, false, cond, not, List, ℕ, zero, suc, ◌*◌, ltb, eqb, ℤ, pos, length, get_or, set}
use Rattle.refusal.specs.Rows.{Said, gives, refuses, Row, first_row, means_outcome}
use Rattle.whole.specs.Lists.{filled}
use Rattle.book.specs.declared.Book.{Book}
use Rattle.book.specs.Books.{partners, listed_rows}
use Rattle.book.specs.Moves.{amount_of, post_said, refund_said, next_book, paid_of, taken_of}
use Rattle.bulk.specs.declared.Ran.{Ran}

-- a call: a posting, or where it is said to be one a refund, of a coefficient in the book's currency at that currency's own digits
unfoldable pub call_said : (refund : Bool) → Book → ℤ → Said ℕ
call_said refund b c = cond refund (refund_said b (amount_of b c)) (post_said b (amount_of b c))

unfoldable pub call_pays : (refund : Bool) → Book → Said ℕ → List ℕ
call_pays refund b said = cond refund (taken_of b said) (paid_of b said)

-- "each call's refusal number (0 where accepted)"
unfoldable pub number_said : Said ℕ → ℕ
number_said (gives n) = 0
number_said (refuses number blamed) = number

-- what call j says on a book
abbrev pub said_at : (refunds : List Bool) (coefficients : List ℤ) → Book → ℕ → Said ℕ
said_at refunds coefficients b j = call_said (get_or refunds j false) b (get_or coefficients j (pos 0))

-- the book after the first j calls: "a refused call pays zeros and the run goes on"
unfoldable pub book_after : Book → (refunds : List Bool) (coefficients : List ℤ) → ℕ → Book
book_after b refunds coefficients zero = b
book_after b refunds coefficients (suc j) =
    let before = book_after b refunds coefficients j in next_book before (said_at refunds coefficients before j)

-- the first k numbers of a list written from a place on
abbrev pub written : List ℕ → (at : ℕ) (numbers : List ℕ) → ℕ → List ℕ
written out at numbers k = filled at (λ i. get_or numbers i 0) k out

-- the lent places after the first j calls: sixteen payouts for each call, and its number; "places past the run stay"
unfoldable pub payouts_after : Book → (refunds : List Bool) (coefficients : List ℤ) → List ℕ → ℕ → List ℕ
payouts_after b refunds coefficients out zero = out
payouts_after b refunds coefficients out (suc j) =
    let before = book_after b refunds coefficients j in
    written (payouts_after b refunds coefficients out j) (j * partners) (call_pays (get_or refunds j false) before (said_at refunds coefficients before j)) partners

unfoldable pub numbers_after : Book → (refunds : List Bool) (coefficients : List ℤ) → List ℕ → ℕ → List ℕ
numbers_after b refunds coefficients out zero = out
numbers_after b refunds coefficients out (suc j) =
    set (numbers_after b refunds coefficients out j) j (number_said (said_at refunds coefficients (book_after b refunds coefficients j) j))

-- too little room for the numbers or the payouts of so many calls
unfoldable pub short : (calls payouts numbers : ℕ) → Bool
short calls payouts numbers = cond (ltb numbers calls) true (ltb payouts (calls * partners))

-- the given book's rows, with 9 for lists of unequal length, and last 11
abbrev pub run_rows : Book → (calls coefficients payouts numbers : ℕ) → List Row
run_rows b calls coefficients payouts numbers = listed_rows b (not (eqb coefficients calls)) (short calls payouts numbers)

-- how many calls are served: all, or the refusal
unfoldable pub run_said : Book → (calls coefficients payouts numbers : ℕ) → Said ℕ
run_said b calls coefficients payouts numbers = first_row (run_rows b calls coefficients payouts numbers) (gives calls)

-- "nothing changed" where the run is refused: no call is served
unfoldable pub served_of : Said ℕ → ℕ
served_of (gives n) = n
served_of (refuses number blamed) = 0

-- the answer of a run, and the lent places afterwards
pub record Serves (b : Book) (refunds : List Bool) (coefficients : List ℤ) (payouts numbers : List ℕ) (r : Ran) (payouts' numbers' : List ℕ) : Type 0 where
  pub outcome : means_outcome r.outcome r.served ≡ run_said b (length refunds) (length coefficients) (length payouts) (length numbers)
  pub served : r.served ≡ served_of (run_said b (length refunds) (length coefficients) (length payouts) (length numbers))
  pub book : r.book ≡ book_after b refunds coefficients r.served
  pub paid : payouts' ≡ payouts_after b refunds coefficients payouts r.served
  pub said : numbers' ≡ numbers_after b refunds coefficients numbers r.served
