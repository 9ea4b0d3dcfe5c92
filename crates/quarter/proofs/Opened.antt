-- What the answer of an opening tells of its rows, and so of what a line began. Assumes nothing.
use Rattle.std.proofs.Common.{◌≡◌, refl, sym, ◌∙◌, Bool, true, false, List, [], ◌∷◌, ℕ}
use Rattle.std.specs.Prelude.{Ok, Err}
use Rattle.refusal.specs.declared.Refusal.{Refusal}
use Rattle.refusal.specs.Rows.{gives, means_outcome, Row, row, first_row, check_of}
use Rattle.refusal.proofs.OneToOne.{same_outcome}
use Rattle.currency.specs.declared.Currency.{Currency}
use Rattle.book.specs.declared.Book.{Book}
use Rattle.book.specs.Moves.{zero_book, open_rows, open_book, open_said, opened_book, Opens}
use Rattle.quarter.specs.Books.{begun_with}
use Rattle.quarter.specs.declared.Opening.TheVariants.{Accepted, Refused}

-- a check's answer says what the call with the same rows does
told : {A : Type 0} (value : A) (rows : List Row) → means_outcome (check_of rows) value ≡ first_row rows (gives value)
told value [] = refl
told value (row r true ∷ rows) = refl
told value (row r false ∷ rows) = told value rows

module _ (currency : Currency) (weights : List ℕ) (coded : Bool) where
  pub accepted : (book : Book) → Opens currency weights (Ok book) → record { opening = Accepted; book = book; coded = coded } ≡ begun_with currency weights coded
  unfolding begun_with open_said opened_book
  accepted book e =
      let value = open_book currency weights in
      let passed : check_of (open_rows currency weights) ≡ Ok tt = same_outcome (check_of (open_rows currency weights)) (Ok tt) value book (told value (open_rows currency weights) ∙ sym e) in
      rw (passed, sym e)

  pub refused : (refusal : Refusal) → Opens currency weights (Err refusal) → record { opening = Refused refusal; book = zero_book; coded = coded } ≡ begun_with currency weights coded
  unfolding begun_with open_said opened_book
  refused refusal e =
      let value = open_book currency weights in
      let stopped : check_of (open_rows currency weights) ≡ Err refusal = same_outcome (check_of (open_rows currency weights)) (Err refusal) value value (told value (open_rows currency weights) ∙ sym e) in
      rw (stopped, sym e)
