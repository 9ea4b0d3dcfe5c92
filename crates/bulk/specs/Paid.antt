-- What each partner was paid and what was taken back from it, after the first j calls of a run: a posting's payouts are added to the
-- one, a refund's to the other. Cited by proofs/RunHistory.antt. Assumes nothing.
use Rattle.std.specs.Prelude.{Bool, false, cond, List, ℕ, zero, suc, ℤ, get_or}
use Rattle.book.specs.declared.Book.{Book}
use Rattle.book.specs.History.{plus_of}
use Rattle.bulk.specs.Runs.{call_pays, said_at, book_after}

-- the payouts of call j
abbrev pub pays_at : Book → (refunds : List Bool) (coefficients : List ℤ) → ℕ → List ℕ
pays_at b refunds coefficients j =
    let before = book_after b refunds coefficients j in call_pays (get_or refunds j false) before (said_at refunds coefficients before j)

unfoldable pub paid_after : Book → (refunds : List Bool) (coefficients : List ℤ) → List ℕ → ℕ → List ℕ
paid_after b refunds coefficients paid zero = paid
paid_after b refunds coefficients paid (suc j) =
    let before = paid_after b refunds coefficients paid j in
    cond (get_or refunds j false) before (plus_of before (pays_at b refunds coefficients j))

unfoldable pub taken_after : Book → (refunds : List Bool) (coefficients : List ℤ) → List ℕ → ℕ → List ℕ
taken_after b refunds coefficients taken zero = taken
taken_after b refunds coefficients taken (suc j) =
    let before = taken_after b refunds coefficients taken j in
    cond (get_or refunds j false) (plus_of before (pays_at b refunds coefficients j)) before
