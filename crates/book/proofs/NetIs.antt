-- A book's net total is the accepted postings less the accepted refunds of its history. By induction on the history: an accepted call moves
-- the net total by its units, a refused one by none. Assumes nothing.
use mathlib.Core.Path.{◌≡◌, refl, ap}
use mathlib.Core.List.{List}
use Prim.Native.Nat.{ℕ, ◌+◌}
use native.Mathlib.Omega.{arith}
use Rattle.refusal.specs.Rows.{Said, gives, refuses}
use Rattle.amount.specs.declared.Amount.{Amount}
use Rattle.book.specs.declared.Book.{Book}
use Rattle.book.specs.declared.Moved.{Moved}
use Rattle.book.specs.Moves.{net_of, units_of, post_said, refund_said, next_book, paid_of, taken_of, Answers, Posts, Refunds}
use Rattle.book.specs.History.{History, none, posted, refunded, uncarded, accepted_of, postings, refunds}
use Rattle.book.proofs.Calls.{posting_net, refund_net, Fresh, refused_card}

module _ (b : Book) (a : Amount) (r : Moved) where
  posting_adds : Posts b a r → net_of r.book ≡ net_of b + accepted_of (post_said b a) (units_of a)
  unfolding next_book
  posting_adds p = go (post_said b a) refl p
    where
      go : (s : Said ℕ) → post_said b a ≡ s → Answers b s (paid_of b s) r → net_of r.book ≡ net_of b + accepted_of s (units_of a)
      go (gives n) e q = posting_net b a r n e p
      go (refuses n k) e q = omega (arith, ap net_of q.book)

  refund_takes : Refunds b a r → net_of r.book + accepted_of (refund_said b a) (units_of a) ≡ net_of b
  unfolding next_book
  refund_takes p = go (refund_said b a) refl p
    where
      go : (s : Said ℕ) → refund_said b a ≡ s → Answers b s (taken_of b s) r → net_of r.book + accepted_of s (units_of a) ≡ net_of b
      go (gives n) e q = refund_net b a r n e p
      go (refuses n k) e q = omega (arith, ap net_of q.book)

module _ {opened : Book} (fresh : Fresh opened) where
  pub net_of_history : {b : Book} {paid taken : List ℕ} (h : History opened b paid taken) → net_of b + refunds h ≡ postings h
  unfolding postings refunds
  net_of_history none = omega (arith, fresh.empty)
  net_of_history (posted {b = b} h a r p) = omega (arith, net_of_history h, posting_adds b a r p)
  net_of_history (refunded {b = b} h a r p) = omega (arith, net_of_history h, refund_takes b a r p)
  net_of_history (uncarded {b = b} h ws r p n k e) = omega (arith, net_of_history h, ap net_of (refused_card b ws r n k e p).0)
