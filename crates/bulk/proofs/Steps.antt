-- The calls of a run in turn: before the first call nothing is written, each call takes the run one further, and the lent lists keep
-- their lengths. Assumes nothing.
use mathlib.Core.Path.{◌≡◌, refl, ap, ap₂, ◌∙◌}
use mathlib.Core.Bool.{Bool, false}
use mathlib.Core.List.{List}
use Prim.Native.Nat.{ℕ, zero, suc, ◌+◌, ◌*◌}
use native.Mathlib.Numerals.{add-one}
use lib.IntN.{ℤ, pos}
use lib.ListN.{length, get_or, set, length-set}
use Rattle.whole.proofs.Lists.{length_filled}
use Rattle.book.specs.declared.Book.{Book}
use Rattle.book.specs.Books.{partners}
use Rattle.book.specs.Moves.{next_book}
use Rattle.bulk.specs.Runs.{call_pays, number_said, said_at, book_after, written, payouts_after, numbers_after}
use Rattle.bulk.specs.Serving.{Turned, ServedTo}

module _ (b : Book) (refunds : List Bool) (coefficients : List ℤ) where
  pub length_payouts : (out : List ℕ) (j : ℕ) → length (payouts_after b refunds coefficients out j) ≡ length out
  unfolding payouts_after
  length_payouts out zero = refl
  length_payouts out (suc j) =
      let before = book_after b refunds coefficients j in
      length_filled (j * partners) (λ i. get_or (call_pays (get_or refunds j false) before (said_at refunds coefficients before j)) i 0) (payouts_after b refunds coefficients out j) partners
      ∙ length_payouts out j

  pub length_numbers : (out : List ℕ) (j : ℕ) → length (numbers_after b refunds coefficients out j) ≡ length out
  unfolding numbers_after
  length_numbers out zero = refl
  length_numbers out (suc j) =
      length-set (numbers_after b refunds coefficients out j) j (number_said (said_at refunds coefficients (book_after b refunds coefficients j) j))
      ∙ length_numbers out j

  module _ (payouts numbers : List ℕ) where
    pub served_start : ServedTo b refunds coefficients payouts numbers 0 b payouts numbers
    unfolding book_after payouts_after numbers_after
    served_start = record { book = refl; paid = refl; said = refl }

    module _ {j : ℕ} {last : Book} {ps ns : List ℕ} (so_far : ServedTo b refunds coefficients payouts numbers j last ps ns) where
      pub served_lengths : (length ps ≡ length payouts) × (length ns ≡ length numbers)
      served_lengths = (ap length so_far.paid ∙ length_payouts payouts j, ap length so_far.said ∙ length_numbers numbers j)

      -- call j is served; z is its coefficient as the program has it
      pub served_step : {next : Book} {ps' ns' : List ℕ} (z : ℤ) → z ≡ get_or coefficients j (pos 0) → Turned last (get_or refunds j false) z j ps ns next ps' ns'
          → ServedTo b refunds coefficients payouts numbers (j + 1) next ps' ns'
      unfolding book_after payouts_after numbers_after
      served_step z same turned =
          let t = rw same at turned in
          rw add-one (record {
            book = t.book ∙ ap (λ (x : Book). next_book x (said_at refunds coefficients x j)) so_far.book;
            paid = t.paid ∙ ap₂ (λ (l : List ℕ) (x : Book). written l (j * partners) (call_pays (get_or refunds j false) x (said_at refunds coefficients x j)) partners) so_far.paid so_far.book;
            said = t.said ∙ ap₂ (λ (l : List ℕ) (x : Book). set l j (number_said (said_at refunds coefficients x j))) so_far.said so_far.book;
          })
