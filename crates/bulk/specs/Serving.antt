-- What the functions behind a run ask and say. Cited by src/serving.rt, src/turns.rt and src/tabled.rt. Assumes nothing.
use Rattle.std.specs.Prelude.{◌≡◌, Bool, List, ℕ, ◌*◌, ◌≤◌, ℤ, length, set}
use Rattle.book.specs.declared.Book.{Book}
use Rattle.book.specs.declared.Moved.{Moved}
use Rattle.book.specs.Books.{partners}
use Rattle.book.specs.Moves.{next_book, Answers}
use Rattle.bulk.specs.Runs.{call_said, call_pays, number_said, book_after, written, payouts_after, numbers_after}

-- no row of a run's lists holds, by their lengths
pub record Fit (calls coefficients payouts numbers : ℕ) : Type 0 where
  pub same : coefficients ≡ calls
  pub numbered : calls ≤ numbers
  pub room : calls * partners ≤ payouts

-- the answer of one call
abbrev pub Calls : (refund : Bool) → Book → ℤ → Moved → Type 0
Calls refund b c r = Answers b (call_said refund b c) (call_pays refund b (call_said refund b c)) r

-- call j is served: the next book, its payouts and its number written
pub record Turned (b : Book) (refund : Bool) (c : ℤ) (j : ℕ) (payouts numbers : List ℕ) (next : Book) (payouts' numbers' : List ℕ) : Type 0 where
  pub book : next ≡ next_book b (call_said refund b c)
  pub paid : payouts' ≡ written payouts (j * partners) (call_pays refund b (call_said refund b c)) partners
  pub said : numbers' ≡ set numbers j (number_said (call_said refund b c))

-- the first j calls are served
pub record ServedTo (b : Book) (refunds : List Bool) (coefficients : List ℤ) (payouts numbers : List ℕ) (j : ℕ) (last : Book) (payouts' numbers' : List ℕ) : Type 0 where
  pub book : last ≡ book_after b refunds coefficients j
  pub paid : payouts' ≡ payouts_after b refunds coefficients payouts j
  pub said : numbers' ≡ numbers_after b refunds coefficients numbers j

-- all calls are
abbrev pub Served : Book → (refunds : List Bool) (coefficients : List ℤ) (payouts numbers : List ℕ) → Book → (payouts' numbers' : List ℕ) → Type 0
Served b refunds coefficients payouts numbers = ServedTo b refunds coefficients payouts numbers (length refunds)
