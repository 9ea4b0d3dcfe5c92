-- Each call of a run is a posting or a refund of its own: whatever answers the book's promise for it on the book before it, hands on the
-- book after it, and at the end of the run its payouts and its number stand in the call's places. A later call writes behind them, and
-- the places past the run stand as they did. Assumes nothing.
use mathlib.Core.Path.{◌≡◌, refl, sym, ap, ◌∙◌}
use mathlib.Core.Bool.{Bool, true, false}
use mathlib.Core.List.{List}
use Prim.Native.Nat.{ℕ, zero, suc, ◌+◌, ◌*◌, ◌≤◌, ◌<◌}
use native.Mathlib.Nat.{not-suc-le-zero}
use native.Mathlib.Numerals.{add-one}
use native.Mathlib.Omega.{arith}
use lib.IntN.{ℤ, pos}
use lib.ListN.{length, get_or, set}
use lib.Seq.{get_or-set_same, get_or-set_other}
use Rattle.refusal.specs.Number.{number_in}
use Rattle.refusal.specs.Rows.{Said, gives, refuses}
use Rattle.refusal.proofs.Joined.{let_pass, same_value}
use Rattle.whole.proofs.Sums.{and_last}
use Rattle.whole.proofs.Lists.{filled_before, filled_behind, filled_inside}
use Rattle.book.specs.declared.Book.{Book}
use Rattle.book.specs.declared.Moved.{Moved}
use Rattle.book.specs.Books.{partners}
use Rattle.book.specs.Moves.{amount_of, Posts, Refunds}
use Rattle.bulk.specs.declared.Ran.{Ran}
use Rattle.bulk.specs.Runs.{number_said, said_at, book_after, payouts_after, numbers_after, run_rows, run_said, served_of, Serves}
use Rattle.bulk.specs.Serving.{Fit, Calls}
use Rattle.bulk.specs.Paid.{pays_at}
use Rattle.bulk.proofs.Call.{call_posts, call_refunds, number_outcome}
use Rattle.bulk.proofs.Steps.{length_payouts, length_numbers}
use Rattle.bulk.proofs.Answered.{run_fit}

module _ (b : Book) (refunds : List Bool) (coefficients : List ℤ) where
  -- the places behind the first k calls
  past_payouts : (out : List ℕ) (k i : ℕ) → k * partners ≤ i → get_or (payouts_after b refunds coefficients out k) i 0 ≡ get_or out i 0
  unfolding payouts_after
  past_payouts out zero i h = refl
  past_payouts out (suc k) i h =
      filled_behind (k * partners) (λ x. get_or (pays_at b refunds coefficients k) x 0) (payouts_after b refunds coefficients out k) 0 partners i (omega arith)
      ∙ past_payouts out k i (omega arith)

  past_numbers : (out : List ℕ) (k i : ℕ) → k ≤ i → get_or (numbers_after b refunds coefficients out k) i 0 ≡ get_or out i 0
  unfolding numbers_after
  past_numbers out zero i h = refl
  past_numbers out (suc k) i h =
      get_or-set_other (numbers_after b refunds coefficients out k) k i (number_said (said_at refunds coefficients (book_after b refunds coefficients k) k)) 0 (λ e. omega arith)
      ∙ past_numbers out k i (omega arith)

  -- the places of call j after the first k
  payouts_at : (out : List ℕ) (k : ℕ) → k * partners ≤ length out → (j : ℕ) → j < k → (i : ℕ) → i < partners
      → get_or (payouts_after b refunds coefficients out k) (j * partners + i) 0 ≡ get_or (pays_at b refunds coefficients j) i 0
  unfolding payouts_after
  payouts_at out zero room j below i h = absurd (not-suc-le-zero below)
  payouts_at out (suc k) room j below i h =
      and_last (λ x. get_or (payouts_after b refunds coefficients out (suc k)) (x * partners + i) 0 ≡ get_or (pays_at b refunds coefficients x) i 0) k
      (λ x l. filled_before (k * partners) (λ y. get_or (pays_at b refunds coefficients k) y 0) (payouts_after b refunds coefficients out k) 0 partners (x * partners + i) (omega arith)
      ∙ payouts_at out k (omega arith) x l i h)
      (filled_inside (k * partners) (λ y. get_or (pays_at b refunds coefficients k) y 0) (payouts_after b refunds coefficients out k) 0 partners i h
      (rw (length_payouts b refunds coefficients out k) (omega arith)))
      j below

  numbers_at : (out : List ℕ) (k : ℕ) → k ≤ length out → (j : ℕ) → j < k
      → get_or (numbers_after b refunds coefficients out k) j 0 ≡ number_said (said_at refunds coefficients (book_after b refunds coefficients j) j)
  unfolding numbers_after
  numbers_at out zero room j below = absurd (not-suc-le-zero below)
  numbers_at out (suc k) room j below =
      let l = numbers_after b refunds coefficients out k in
      let n = number_said (said_at refunds coefficients (book_after b refunds coefficients k) k) in
      and_last (λ x. get_or (set l k n) x 0 ≡ number_said (said_at refunds coefficients (book_after b refunds coefficients x) x)) k
      (λ x h. get_or-set_other l k x n 0 (λ e. omega arith) ∙ numbers_at out k (omega arith) x h)
      (get_or-set_same l k n 0 (rw (length_numbers b refunds coefficients out k) room)) j below

-- a call is served only where the lists fit
served_fit : (b : Book) (calls coefficients payouts numbers j : ℕ) → j < served_of (run_said b calls coefficients payouts numbers)
    → Fit calls coefficients payouts numbers × (served_of (run_said b calls coefficients payouts numbers) ≡ calls)
unfolding run_said served_of
served_fit b calls coefficients payouts numbers j = go (run_said b calls coefficients payouts numbers) refl
  where
    go : (s : Said ℕ) → run_said b calls coefficients payouts numbers ≡ s → j < served_of s → Fit calls coefficients payouts numbers × (served_of s ≡ calls)
    go (gives n) e h =
        let rows = run_rows b calls coefficients payouts numbers in
        ((run_fit b calls coefficients payouts numbers (let_pass calls n rows e)).1, sym (same_value calls n rows e))
    go (refuses n k) e h = absurd (omega arith)

-- what call j of a run leaves, where r answers it: the book after it, and at the end of the run its payouts and its number
pub record InTurn (b : Book) (refunds : List Bool) (coefficients : List ℤ) (ps ns : List ℕ) (j : ℕ) (r : Moved) : Type 0 where
  pub book : book_after b refunds coefficients (j + 1) ≡ r.book
  pub paid : (i : ℕ) → i < partners → get_or ps (j * partners + i) 0 ≡ get_or r.payouts i 0
  pub number : get_or ns j 0 ≡ number_in r.outcome

module _ (b : Book) (refunds : List Bool) (coefficients : List ℤ) (payouts numbers : List ℕ) (ran : Ran) (ps ns : List ℕ)
    (s : Serves b refunds coefficients payouts numbers ran ps ns) where
  -- the book before call j, and its coefficient
  abbrev before : ℕ → Book
  before j = book_after b refunds coefficients j

  abbrev coefficient_at : ℕ → ℤ
  coefficient_at j = get_or coefficients j (pos 0)

  module _ (j : ℕ) (served : j < ran.served) (r : Moved) where
    called : Calls (get_or refunds j false) (before j) (coefficient_at j) r → InTurn b refunds coefficients ps ns j r
    unfolding book_after
    called answer =
        let all = served_fit b (length refunds) (length coefficients) (length payouts) (length numbers) j (rw (← s.served) served) in
        let fit = all.0 in
        let count : ran.served ≡ length refunds = s.served ∙ all.1 in
        record {
          book = rw add-one (sym answer.book);
          paid = λ i h.
              ap (λ (l : List ℕ). get_or l (j * partners + i) 0) s.paid
              ∙ payouts_at b refunds coefficients payouts ran.served (rw count fit.room) j served i h
              ∙ ap (λ (l : List ℕ). get_or l i 0) (sym answer.paid);
          number = ap (λ (l : List ℕ). get_or l j 0) s.said
              ∙ numbers_at b refunds coefficients numbers ran.served (rw count fit.numbered) j served
              ∙ sym (number_outcome r.outcome _ _ answer.outcome refl);
        }

    -- call j is a posting where it is not said to be a refund
    pub posting_in_turn : get_or refunds j false ≡ false → Posts (before j) (amount_of (before j) (coefficient_at j)) r → InTurn b refunds coefficients ps ns j r
    posting_in_turn e p = called (call_posts (get_or refunds j false) (before j) (coefficient_at j) r e p)

    -- and a refund where it is
    pub refund_in_turn : get_or refunds j false ≡ true → Refunds (before j) (amount_of (before j) (coefficient_at j)) r → InTurn b refunds coefficients ps ns j r
    refund_in_turn e p = called (call_refunds (get_or refunds j false) (before j) (coefficient_at j) r e p)

  -- the book before the first call is the given one, and the run ends with the book after the last
  pub first_book : before 0 ≡ b
  unfolding book_after
  first_book = refl

  pub last_book : ran.book ≡ before ran.served
  last_book = s.book

  -- places past the run stand as they did
  pub payouts_past : (i : ℕ) → ran.served * partners ≤ i → get_or ps i 0 ≡ get_or payouts i 0
  payouts_past i h = ap (λ (l : List ℕ). get_or l i 0) s.paid ∙ past_payouts b refunds coefficients payouts ran.served i h

  pub numbers_past : (i : ℕ) → ran.served ≤ i → get_or ns i 0 ≡ get_or numbers i 0
  numbers_past i h = ap (λ (l : List ℕ). get_or l i 0) s.said ∙ past_numbers b refunds coefficients numbers ran.served i h
