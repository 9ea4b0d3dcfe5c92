-- After any history on an opened book, each partner was paid what was taken back from it and its running total at the net total
-- besides. By induction on the history: each call adds the units between two net totals to one of the two sides. Assumes nothing.
use mathlib.Core.Path.{◌≡◌, ap}
use mathlib.Core.List.{List}
use Prim.Native.Nat.{ℕ, ◌+◌}
use native.Mathlib.Omega.{arith}
use lib.ListN.{get_or}
use Rattle.whole.specs.Sums.{sum_of}
use Rattle.whole.proofs.Sums.{get_d_noughts, sum_noughts}
use Rattle.units.specs.Rule.{totals}
use Rattle.units.proofs.Added.{totals_none}
use Rattle.book.specs.declared.Book.{Book}
use Rattle.book.specs.Books.{partners}
use Rattle.book.specs.Moves.{net_of, next_book}
use Rattle.book.specs.History.{History, none, posted, refunded, uncarded}
use Rattle.book.proofs.Lists.{plus_place, plus_sum}
use Rattle.book.proofs.Calls.{posting_pays, refund_takes, Stands, posting_stands, refund_stands, Fresh, refused_card}

pub record After (opened b : Book) (paid taken : List ℕ) : Type 0 where
  pub stands : Stands opened b
  pub places : (i : ℕ) → get_or paid i 0 ≡ get_or taken i 0 + get_or (totals opened.weights (net_of b)) i 0
  pub added : sum_of paid ≡ sum_of taken + net_of b

module _ (opened : Book) (fresh : Fresh opened) where
  same_weights : (b : Book) → Stands opened b → b.weights ≡ opened.weights
  unfolding next_book
  same_weights b s = ap (λ (x : Book). x.weights) s.same

  pub after : {b : Book} {paid taken : List ℕ} → History opened b paid taken → After opened b paid taken
  after none =
      record {
        stands = fresh.stands;
        places = λ i. rw (get_d_noughts partners i, fresh.empty, totals_none);
        added = rw (sum_noughts partners, fresh.empty);
      }
  after (posted {b = b} h a r p) =
      let k = after h in
      let m = rw (same_weights b k.stands) at (posting_pays b a r p) in
      record {
        stands = posting_stands opened b r k.stands a p;
        places = λ i. rw plus_place (omega (arith, k.places i, m.places i));
        added = rw plus_sum (omega arith);
      }
  after (refunded {b = b} h a r p) =
      let k = after h in
      let m = rw (same_weights b k.stands) at (refund_takes b a r p) in
      record {
        stands = refund_stands opened b r k.stands a p;
        places = λ i. rw plus_place (omega (arith, k.places i, m.places i));
        added = rw plus_sum (omega arith);
      }
  after (uncarded {b = b} h ws r p n k e) =
      let m = after h in
      let q = refused_card b ws r n k e p in
      rw (q.0, q.1) (record {
        stands = m.stands;
        places = λ i. rw (plus_place, get_d_noughts partners i) (omega (arith, m.places i));
        added = rw (plus_sum, sum_noughts partners) (omega (arith, m.added));
      })
