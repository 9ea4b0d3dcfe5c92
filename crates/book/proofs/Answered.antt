-- From the checks of a call to its promise: what passed is within the limits that the running totals ask, and the answer of a passed
-- or a refused call is the one that its rows say. Assumes nothing.
use Rattle.std.specs.Prelude.{Ok, Err}
use mathlib.Core.Path.{◌≡◌, sym, subst}
use mathlib.Core.Bool.{false}
use mathlib.Core.List.{List, [], ◌∷◌, ◌++◌}
use Prim.Native.Nat.{ℕ, ◌+◌, ◌-◌, ◌≤◌}
use native.Mathlib.Nat.{le_refl}
use borrow.Author.Tests.{ltb-false}
use lib.Dec.{ltb}
use lib.ListN.{length, replicate}
use Rattle.refusal.specs.declared.Refusal.{Refusal}
use Rattle.refusal.specs.declared.Refusal.TheVariants.{Refund, Limit}
use Rattle.refusal.specs.Number.{number_of, blamed_of}
use Rattle.refusal.specs.Rows.{Said, gives, refuses, row, check_of}
use Rattle.refusal.proofs.Check.{passed, refused, clear}
use Rattle.whole.specs.Sums.{sum_of}
use Rattle.amount.specs.declared.Amount.{Amount}
use Rattle.currency.specs.declared.Currency.{Currency}
use Rattle.amount.specs.Amounts.{largest, over_l}
use Rattle.units.specs.Rule.{totals}
use Rattle.book.specs.declared.Book.{Book}
use Rattle.book.specs.declared.Moved.{Moved}
use Rattle.book.specs.Settled.{any_over}
use Rattle.book.specs.Books.{partners, weight_sum, zeros, settled_sum, weight_rows, with_book}
use Rattle.book.specs.Moves.{net_of, units_of, move_rows, post_rows, refund_rows, post_said, refund_said, less_of, paid_of, taken_of, Answers, Posts, Refunds, open_rows}
use Rattle.refusal.proofs.Joined.{both_passed}
use Rattle.running.proofs.Places.{sum_past}
use Rattle.book.proofs.Lists.{sum_padded, sum_padding}
use Rattle.book.proofs.SettledTotals.{limit_by}

module _ (b : Book) (a : Amount) where
  -- a book and an amount that passed rows 2 to 10
  pub record Fit : Type 0 where
    pub units : units_of a ≤ largest
    pub net : net_of b ≤ largest
    pub some : 1 ≤ sum_of b.weights
    pub most : sum_of b.weights ≤ weight_sum
    pub over : any_over b.settled ≡ false
    pub limit : settled_sum b + net_of b ≤ largest

  pub move_fit : check_of (move_rows b a) ≡ Ok tt → Fit
  unfolding move_rows with_book weight_rows
  move_fit e =
      let rows = clear (move_rows b a) e in
      let weights = rows.1.1.1.1.1.1.1.1.1 in
      let signs = weights.1.1.1.1.1.1.1.1.1 in
      record {
        units = ltb-false largest (units_of a) rows.1.1.0;
        net = ltb-false largest (net_of b) rows.1.1.1.0;
        some = ltb-false (sum_of b.weights) 1 weights.1.1.1.0;
        most = ltb-false weight_sum (sum_of b.weights) weights.1.1.1.1.0;
        over = rows.1.1.1.1.0;
        limit = limit_by b.net b.settled rows.1.1.1.1.1.0 signs.0 signs.1.0;
      }

  pub post_fit : check_of (post_rows b a) ≡ Ok tt → Fit × (settled_sum b + (net_of b + units_of a) ≤ largest)
  post_fit e =
      let last = row Limit (over_l (settled_sum b + (net_of b + units_of a))) ∷ [] in
      let parts = both_passed (move_rows b a) last e in
      (move_fit parts.0, ltb-false largest (settled_sum b + (net_of b + units_of a)) (clear last parts.1).0)

  pub refund_fit : check_of (refund_rows b a) ≡ Ok tt → Fit × (units_of a ≤ net_of b)
  refund_fit e =
      let parts = both_passed (move_rows b a) (row Refund (ltb (net_of b) (units_of a)) ∷ []) e in
      (move_fit parts.0, ltb-false (net_of b) (units_of a) (clear (row Refund (ltb (net_of b) (units_of a)) ∷ []) parts.1).0)

  module _ (r : Moved) where
    pub post_refused : (refusal : Refusal) → check_of (post_rows b a) ≡ Err refusal → Answers b (refuses (number_of refusal) (blamed_of refusal)) zeros r
        → Posts b a r
    unfolding post_said paid_of
    post_refused refusal e answer =
        subst (λ (s : Said ℕ). Answers b s (paid_of b s) r) (sym (refused (gives (net_of b + units_of a)) (post_rows b a) refusal e)) answer

    pub refund_refused : (refusal : Refusal) → check_of (refund_rows b a) ≡ Err refusal
        → Answers b (refuses (number_of refusal) (blamed_of refusal)) zeros r → Refunds b a r
    unfolding refund_said taken_of
    refund_refused refusal e answer =
        subst (λ (s : Said ℕ). Answers b s (taken_of b s) r) (sym (refused (gives (net_of b - units_of a)) (refund_rows b a) refusal e)) answer

    -- n and u are N and A as the program has them
    module _ (n u : ℕ) (net : n ≡ net_of b) (units : u ≡ units_of a) where
      pub post_passed : check_of (post_rows b a) ≡ Ok tt → Answers b (gives (n + u)) (less_of (totals b.weights (n + u)) (totals b.weights n)) r
          → Posts b a r
      unfolding post_said paid_of
      post_passed e answer =
          subst (λ (s : Said ℕ). Answers b s (paid_of b s) r) (sym (passed (gives (net_of b + units_of a)) (post_rows b a) e)) (rw (net, units) at answer)

      pub refund_passed : check_of (refund_rows b a) ≡ Ok tt
          → Answers b (gives (n - u)) (less_of (totals b.weights n) (totals b.weights (n - u))) r → Refunds b a r
      unfolding refund_said taken_of
      refund_passed e answer =
          subst (λ (s : Said ℕ). Answers b s (taken_of b s) r) (sym (passed (gives (net_of b - units_of a)) (refund_rows b a) e)) (rw (net, units) at answer)

-- noughts behind a list of weights change no row of it
pub padded_rows : (ws : List ℕ) (n : ℕ) → check_of (weight_rows (length ws) (ws ++ replicate n 0)) ≡ check_of (weight_rows (length ws) ws)
unfolding weight_rows
padded_rows ws n = rw (sum_padding ws n, sum_padded ws n, sum_past ws (length ws) (le_refl (length ws)))

-- an opening
module _ (c : Currency) (ws : List ℕ) where
  pub open_fit : check_of (open_rows c ws) ≡ Ok tt → length ws ≤ partners
  unfolding weight_rows
  open_fit e = ltb-false partners (length ws) (clear (open_rows c ws) e).1.1.0
