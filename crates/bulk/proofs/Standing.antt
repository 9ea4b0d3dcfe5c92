-- A book of which no row holds: a call on it, at any net total that is up to L with what is settled, says what is left of it, and the book after it is the same but for
-- its net total. Assumes nothing.
use mathlib.Core.Path.{◌≡◌, refl, sym, ap, ◌∙◌}
use mathlib.Core.Bool.{Bool, true, false, cond}
use mathlib.Core.List.{List}
use Prim.Native.Nat.{ℕ, ◌+◌, ◌-◌, ◌*◌, ◌≤◌}
use lib.Dec.{ltb}
use lib.IntN.{ℤ, pos}
use lib.ListN.{get_or, set}
use Rattle.refusal.specs.Rows.{Said, gives, refuses, row}
use Rattle.refusal.specs.declared.Refusal.TheVariants.{Refund, Limit}
use Rattle.whole.specs.Sums.{sum_of}
use Rattle.whole.specs.Whole.{negative, magnitude_of}
use Rattle.amount.specs.Amounts.{largest, over_l}
use Rattle.book.specs.declared.Book.{Book}
use Rattle.book.specs.Settled.{any_over}
use Rattle.book.specs.Books.{partners, net_of, settled_sum, zeros}
use Rattle.book.specs.Moves.{amount_of, post_said, refund_said, next_book, paid_of, taken_of}
use Rattle.book.proofs.Given.{book_fit, book_settled, book_net, left_of_call}
use Rattle.cycle.specs.Cycle.{Weighed}
use Rattle.bulk.specs.Runs.{call_said, call_pays, number_said, written}
use Rattle.bulk.specs.Serving.{Turned, ServedTo}
use Rattle.bulk.specs.Left.{Sound, left_said, left_net, left_pays, Stepped}
use Rattle.bulk.proofs.LeftSaid.{same_either}
use Rattle.bulk.proofs.Steps.{served_start, served_step}

module _ (b : Book) (sound : Sound b) where
  -- sixteen weights with a sum in its limits
  pub sound_weighed : (sum : ℕ) → sum ≡ sum_of b.weights → Weighed b.weights sum
  sound_weighed sum same =
      let fit = book_fit b sound in record { same = same; some = rw same fit.1; most = rw same fit.2 }

  -- a net total from 0 on, within L with what is settled
  pub sound_net : (b ≡ next_book b (gives (net_of b))) × (settled_sum b + net_of b ≤ largest)
  unfolding next_book
  sound_net = (book_net b sound, (book_settled b sound).2)

  -- what is settled, as the program has it
  pub sound_settled : (s : ℕ) → s ≡ cond (any_over b.settled) 0 (settled_sum b) → s ≡ settled_sum b
  sound_settled s e = e ∙ ap (λ (x : Bool). cond x 0 (settled_sum b)) (book_settled b sound).0

  -- a call at net total n says what is left of it
  pub left_call : (n : ℕ) → settled_sum b + n ≤ largest → (z : ℤ) (refund : Bool) → call_said refund (next_book b (gives n)) z ≡ left_said (settled_sum b) refund (negative z) (magnitude_of z) n
  unfolding call_said left_said post_said refund_said next_book amount_of
  left_call n limit z true = left_of_call b sound (gives (n - magnitude_of z)) (row Refund (ltb n (magnitude_of z))) n z limit
  left_call n limit z false = left_of_call b sound (gives (n + magnitude_of z)) (row Limit (over_l (settled_sum b + (n + magnitude_of z)))) n z limit

-- and pays what is left to pay; the book after it sound at the new net total
module _ (b : Book) (n : ℕ) where
  left_pay : (refund : Bool) (said : Said ℕ) → call_pays refund (next_book b (gives n)) said ≡ left_pays refund b.weights n said
  unfolding call_pays left_pays paid_of taken_of next_book
  left_pay true (gives m) = refl
  left_pay false (gives m) = refl
  left_pay refund (refuses number blamed) = same_either refund zeros

  left_book : (said : Said ℕ) → next_book (next_book b (gives n)) said ≡ next_book b (gives (left_net n said))
  unfolding next_book left_net
  left_book (gives m) = refl
  left_book (refuses number blamed) = refl

-- so what is left of a call serves it
stepped_turned : (b : Book) → Sound b → (refund : Bool) (c : ℤ) (j n : ℕ) → settled_sum b + n ≤ largest → {payouts numbers ts ps ns : List ℕ} {next : ℕ}
    → Stepped (settled_sum b) b.weights refund c j n payouts numbers next ts ps ns
    → Turned (next_book b (gives n)) refund c j payouts numbers (next_book b (gives next)) ps ns
stepped_turned b sound refund c j n limit {payouts} {numbers} s =
    let said = left_call b sound n limit c refund in
    record {
      book = ap (λ (x : ℕ). next_book b (gives x)) s.net ∙ sym (left_book b n _) ∙ ap (next_book (next_book b (gives n))) (sym said);
      paid = s.paid ∙ ap (λ (l : List ℕ). written payouts (j * partners) l partners) (sym (left_pay b n refund _) ∙ ap (call_pays refund (next_book b (gives n))) (sym said));
      said = s.said ∙ ap (λ (x : Said ℕ). set numbers j (number_said x)) (sym said);
    }

-- for a book with these weights at net total n, whichever it is: before the first call, and after call j
module _ (refunds : List Bool) (coefficients : List ℤ) (payouts numbers ws : List ℕ) (settled start : ℕ) where
  abbrev pub Serving : (j n : ℕ) (ps ns : List ℕ) → Type 0
  Serving j n ps ns =
      (b : Book) → Sound b → b.weights ≡ ws → settled_sum b ≡ settled → net_of b ≡ start → ServedTo b refunds coefficients payouts numbers j (next_book b (gives n)) ps ns

  pub serving_start : Serving 0 start payouts numbers
  serving_start b sound same sum net =
      let e : next_book b (gives start) ≡ b = ap (λ (n : ℕ). next_book b (gives n)) (sym net) ∙ sym (sound_net b sound).0 in
      rw e (served_start b refunds coefficients payouts numbers)

  pub serving_step : {j n next : ℕ} {ps ns ts ps' ns' : List ℕ} (z : ℤ) → z ≡ get_or coefficients j (pos 0) → settled + n ≤ largest → Serving j n ps ns
      → Stepped settled ws (get_or refunds j false) z j n ps ns next ts ps' ns' → Serving (j + 1) next ps' ns'
  serving_step {j} {n} z same limit so_far s b sound here sum net =
      served_step b refunds coefficients payouts numbers (so_far b sound here sum net) z same
      (stepped_turned b sound (get_or refunds j false) z j n (rw sum limit) (rw (← here, ← sum) at s))
