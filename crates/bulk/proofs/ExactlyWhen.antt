-- The rows of a run stand in the table's order, so that a run gives number n exactly when a row of n holds and no row that stands before
-- it does: for a book broken in one field that field's number, and 9 for the book whose every field is 0. Assumes nothing.
use mathlib.Core.Path.{◌≡◌, ap, ◌∙◌}
use mathlib.Core.Bool.{not}
use mathlib.Core.List.{List, [], ◌∷◌}
use Prim.Native.Nat.{ℕ}
use borrow.Author.Tests.{eq-eqb}
use lib.Dec.{eqb}
use Rattle.refusal.specs.Rows.{gives, refuses, Row, row, first_row}
use Rattle.refusal.specs.declared.Refusal.TheVariants.{Weights, Room}
use Rattle.refusal.proofs.Check.{behind}
use Rattle.refusal.proofs.ExactlyWhen.{Given, exactly_when}
use Rattle.book.specs.declared.Book.{Book}
use Rattle.book.specs.Books.{with_book, listed_rows}
use Rattle.book.specs.Moves.{zero_book}
use Rattle.book.proofs.Broken.{BrokenBy, broken_call}
use Rattle.book.proofs.ExactlyWhen.{ExactlyBy, listed_rises}
use Rattle.book.proofs.ZeroBook.{zero_listed}
use Rattle.bulk.specs.Runs.{short, run_rows, run_said}

module _ (calls coefficients payouts numbers : ℕ) where
  pub run_exactly_when : (b : Book) → ExactlyBy (run_said b calls coefficients payouts numbers) (run_rows b calls coefficients payouts numbers)
  unfolding run_said Given
  run_exactly_when b n =
      exactly_when calls n (run_rows b calls coefficients payouts numbers) (listed_rises b (not (eqb coefficients calls)) (short calls payouts numbers))

  -- for a book broken in one field, that field's number
  pub run_broken : (b : Book) (n : ℕ) → coefficients ≡ calls → BrokenBy b n → run_said b calls coefficients payouts numbers ≡ refuses n 0
  unfolding run_said listed_rows
  run_broken b n same broken =
      let unequal : List Row = row Weights (not (eqb coefficients calls)) ∷ [] in
      let room : List Row = row Room (short calls payouts numbers) ∷ [] in
      behind (gives calls) (with_book b [] [] [] [] unequal []) room
      ∙ broken_call (first_row room (gives calls)) b [] [] [] [] unequal [] tt tt tt (λ k. tt) (ap not (eq-eqb coefficients calls same), tt) tt n broken

  -- document 01: "any later call with that one is refused with 9 or a lower number"
  pub zero_run : run_said zero_book calls coefficients payouts numbers ≡ refuses 9 0
  unfolding run_said
  zero_run = zero_listed (gives calls) (not (eqb coefficients calls)) (short calls payouts numbers)
