-- The useless builds that the auditor tries do not meet the promises: an accepted posting of a positive amount moves the net total, so a
-- book that never moves fails; its payouts add to the amount, so payouts of zero fail; and where a value is due, no refusal serves.
-- Assumes nothing.
use Rattle.std.specs.Prelude.{Result, Ok, Err, ⊤}
use mathlib.Core.Path.{◌≡◌, ap, ◌∙◌}
use Prim.Native.Nat.{ℕ, ◌<◌}
use native.Mathlib.Omega.{arith}
use Rattle.refusal.specs.Rows.{gives, means_outcome}
use Rattle.refusal.specs.declared.Refusal.{Refusal}
use Rattle.whole.proofs.Sums.{sum_noughts}
use Rattle.amount.specs.declared.Amount.{Amount}
use Rattle.book.specs.declared.Book.{Book}
use Rattle.book.specs.declared.Moved.{Moved}
use Rattle.book.specs.Books.{partners, zeros}
use Rattle.book.specs.Moves.{net_of, units_of, post_said, Posts}
use Rattle.book.proofs.Calls.{posting_net, posting_pays}

-- of any call on a book: where it gives a value, the outcome is no refusal
pub no_refusal : {A : Type 0} (outcome : Result ⊤ Refusal) (v w : A) (k : Refusal) → means_outcome outcome v ≡ gives w → outcome ≡ Err k → ⊥
no_refusal (Ok tt) v w k e f = let z : ◌≡◌ {A = ℕ} 0 1 = cc in omega arith
no_refusal (Err s) v w k e f = let z : ◌≡◌ {A = ℕ} 0 1 = cc in omega arith

module _ (b : Book) (a : Amount) (n : ℕ) (accepted : post_said b a ≡ gives n) (r : Moved) (meets : Posts b a r) where
  -- a book that never moves
  pub never_moves : 0 < units_of a → r.book ≡ b → ⊥
  never_moves some e = omega (arith, posting_net b a r n accepted meets, ap net_of e)

  -- one that pays the first posting rightly and zeros later: at this posting, whatever was paid before
  pub pays_zeros : 0 < units_of a → r.payouts ≡ zeros → ⊥
  pays_zeros some e =
      omega (arith, posting_net b a r n accepted meets, rw (e, sum_noughts partners) at (posting_pays b a r meets).adds)

  -- one that refuses everything
  pub refuses_all : (k : Refusal) → r.outcome ≡ Err k → ⊥
  refuses_all k = no_refusal r.outcome (net_of r.book) n k (meets.outcome ∙ accepted)
