-- A run from a history is a history again: each call is a posting or a refund, and has an answer that its promise allows. So demand 3 holds
-- of runs as of single calls. By induction on the calls. Assumes nothing.
use Rattle.std.specs.Prelude.{Ok, Err}
use mathlib.Core.Path.{refl}
use mathlib.Core.Bool.{Bool, true, false, cond}
use mathlib.Core.List.{List, [], ◌∷◌}
use Prim.Native.Nat.{ℕ, zero, suc}
use lib.IntN.{ℤ, pos}
use lib.ListN.{get_or}
use Rattle.refusal.specs.Rows.{gives, Row, row, first_row}
use Rattle.amount.specs.declared.Amount.{Amount}
use Rattle.book.specs.declared.Book.{Book}
use Rattle.book.specs.declared.Moved.{Moved}
use Rattle.book.specs.Moves.{amount_of, post_rows, refund_rows, post_said, refund_said, next_book, paid_of, taken_of, Answers}
use Rattle.book.specs.History.{plus_of, History, posted, refunded}
use Rattle.bulk.specs.declared.Ran.{Ran}
use Rattle.bulk.specs.Runs.{call_said, call_pays, book_after, Serves}
use Rattle.bulk.specs.Paid.{paid_after, taken_after}

-- whatever rows say, there is an answer that says so
answer : (b : Book) (payouts : List ℕ) (v : ℕ) (rows : List Row) → (r : Moved) × Answers b (first_row rows (gives v)) payouts r
unfolding next_book
answer b payouts v [] =
    (record { outcome = Ok tt; book = next_book b (gives v); payouts = payouts }, record { outcome = refl; book = refl; paid = refl })
answer b payouts v (row x true ∷ rows) =
    (record { outcome = Err x; book = b; payouts = payouts }, record { outcome = refl; book = refl; paid = refl })
answer b payouts v (row x false ∷ rows) = answer b payouts v rows

module _ (opened b : Book) (paid taken : List ℕ) (h : History opened b paid taken) where
  history_posted : (a : Amount) → History opened (next_book b (post_said b a)) (plus_of paid (paid_of b (post_said b a))) taken
  unfolding post_said
  history_posted a =
      let r = answer b (paid_of b (post_said b a)) _ (post_rows b a) in
      rw (r.1.book, r.1.paid) at (posted h a r.0 r.1)

  history_refunded : (a : Amount) → History opened (next_book b (refund_said b a)) paid (plus_of taken (taken_of b (refund_said b a)))
  unfolding refund_said
  history_refunded a =
      let r = answer b (taken_of b (refund_said b a)) _ (refund_rows b a) in
      rw (r.1.book, r.1.paid) at (refunded h a r.0 r.1)

  -- one call more
  history_called : (refund : Bool) (c : ℤ)
      → let said = call_said refund b c in
      History opened (next_book b said) (cond refund paid (plus_of paid (call_pays refund b said))) (cond refund (plus_of taken (call_pays refund b said)) taken)
  unfolding call_said call_pays
  history_called true c = history_refunded (amount_of b c)
  history_called false c = history_posted (amount_of b c)

module _ (opened b : Book) (paid taken : List ℕ) (h : History opened b paid taken) (refunds : List Bool) (coefficients : List ℤ) where
  pub calls_history : (j : ℕ)
      → History opened (book_after b refunds coefficients j) (paid_after b refunds coefficients paid j) (taken_after b refunds coefficients taken j)
  unfolding book_after paid_after taken_after
  calls_history zero = h
  calls_history (suc j) =
      history_called opened (book_after b refunds coefficients j) (paid_after b refunds coefficients paid j) (taken_after b refunds coefficients taken j)
      (calls_history j) (get_or refunds j false) (get_or coefficients j (pos 0))

  -- the history at the end of a run
  pub run_history : (payouts numbers : List ℕ) (ran : Ran) (ps ns : List ℕ) → Serves b refunds coefficients payouts numbers ran ps ns
      → History opened ran.book (paid_after b refunds coefficients paid ran.served) (taken_after b refunds coefficients taken ran.served)
  run_history payouts numbers ran ps ns s = rw s.book (calls_history ran.served)
