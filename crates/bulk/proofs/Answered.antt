-- From the check of a run to its answer: what is refused leaves the book and the lent places as they stood; what passed has a book of which
-- no row holds, and room for every call. Assumes nothing.
use Rattle.std.specs.Prelude.{Ok, Err}
use mathlib.Core.Path.{◌≡◌, refl, sym, ap}
use mathlib.Core.Bool.{Bool, true, false, not, cond}
use mathlib.Core.List.{List}
use Prim.Native.Nat.{ℕ, ◌*◌, ◌≤◌}
use native.Mathlib.Omega.{arith}
use borrow.Author.Tests.{ltb-false, eqb-true, not-false}
use lib.Dec.{ltb, eqb}
use lib.IntN.{ℤ}
use lib.ListN.{length}
use Rattle.refusal.specs.declared.Refusal.{Refusal}
use Rattle.refusal.specs.Number.{number_of, blamed_of}
use Rattle.refusal.specs.Rows.{gives, refuses, check_of}
use Rattle.refusal.proofs.Check.{passed, refused}
use Rattle.book.specs.declared.Book.{Book}
use Rattle.book.specs.Books.{partners}
use Rattle.book.proofs.Given.{listed_passed}
use Rattle.bulk.specs.Runs.{book_after, payouts_after, numbers_after, short, run_rows, run_said, served_of, Serves}
use Rattle.bulk.specs.Serving.{Fit, Served}
use Rattle.bulk.specs.Left.{Sound}

-- lists that are not short have the room
long_enough : (calls payouts numbers : ℕ) → short calls payouts numbers ≡ false → (calls ≤ numbers) × (calls * partners ≤ payouts)
unfolding short
long_enough calls payouts numbers e = go (ltb numbers calls) refl e
  where
    go : (x : Bool) → ltb numbers calls ≡ x → cond x true (ltb payouts (calls * partners)) ≡ false → (calls ≤ numbers) × (calls * partners ≤ payouts)
    go true f h = let z : ◌≡◌ {A = ℕ} 0 1 = cc in absurd (omega arith)
    go false f h = (ltb-false numbers calls f, ltb-false payouts (calls * partners) h)

module _ (b : Book) (calls coefficients payouts numbers : ℕ) where
  -- what passes is a sound book and has room
  pub run_fit : check_of (run_rows b calls coefficients payouts numbers) ≡ Ok tt → Sound b × Fit calls coefficients payouts numbers
  run_fit e =
      let parts = listed_passed b (not (eqb coefficients calls)) (short calls payouts numbers) e in
      let room = long_enough calls payouts numbers parts.2 in
      (parts.0, record { same = eqb-true coefficients calls (not-false (eqb coefficients calls) parts.1); numbered = room.0; room = room.1 })

  said_passed : check_of (run_rows b calls coefficients payouts numbers) ≡ Ok tt → run_said b calls coefficients payouts numbers ≡ gives calls
  unfolding run_said
  said_passed e = passed (gives calls) (run_rows b calls coefficients payouts numbers) e

  said_refused : (r : Refusal) → check_of (run_rows b calls coefficients payouts numbers) ≡ Err r
      → run_said b calls coefficients payouts numbers ≡ refuses (number_of r) (blamed_of r)
  unfolding run_said
  said_refused r e = refused (gives calls) (run_rows b calls coefficients payouts numbers) r e

module _ (b : Book) (refunds : List Bool) (coefficients : List ℤ) (payouts numbers : List ℕ) where
  -- no call is served
  pub run_refused : (r : Refusal) → check_of (run_rows b (length refunds) (length coefficients) (length payouts) (length numbers)) ≡ Err r
      → Serves b refunds coefficients payouts numbers (record { outcome = Err r; book = b; served = 0 }) payouts numbers
  unfolding book_after payouts_after numbers_after served_of
  run_refused r e =
      let said = said_refused b (length refunds) (length coefficients) (length payouts) (length numbers) r e in
      record { outcome = sym said; served = sym (ap served_of said); book = refl; paid = refl; said = refl }

  -- all calls are
  pub run_passed : {last : Book} {ps ns : List ℕ}
      → check_of (run_rows b (length refunds) (length coefficients) (length payouts) (length numbers)) ≡ Ok tt
      → Served b refunds coefficients payouts numbers last ps ns
      → Serves b refunds coefficients payouts numbers (record { outcome = Ok tt; book = last; served = length refunds }) ps ns
  unfolding served_of
  run_passed e s =
      let said = said_passed b (length refunds) (length coefficients) (length payouts) (length numbers) e in
      record { outcome = sym said; served = sym (ap served_of said); book = s.book; paid = s.paid; said = s.said }
