-- Two answers that the promise of a run allows are equal, and so are the lent places: the promise says the count, the book and the
-- places outright, and an outcome is known by what it says. Assumes nothing.
use mathlib.Core.Path.{◌≡◌, sym, ap, ◌∙◌}
use mathlib.Core.Bool.{Bool}
use mathlib.Core.List.{List}
use Prim.Native.Nat.{ℕ}
use lib.IntN.{ℤ}
use Rattle.refusal.proofs.OneToOne.{same_outcome}
use Rattle.book.specs.declared.Book.{Book}
use Rattle.bulk.specs.declared.Ran.{Ran}
use Rattle.bulk.specs.Runs.{book_after, payouts_after, numbers_after, Serves}

pub one_run : (b : Book) (refunds : List Bool) (coefficients : List ℤ) (payouts numbers : List ℕ) (r s : Ran) (ps qs ns ms : List ℕ)
    → Serves b refunds coefficients payouts numbers r ps ns → Serves b refunds coefficients payouts numbers s qs ms → (r ≡ s) × (ps ≡ qs) × (ns ≡ ms)
one_run b refunds coefficients payouts numbers r s ps qs ns ms p q =
    let outcome : r.outcome ≡ s.outcome = same_outcome r.outcome s.outcome _ _ (p.outcome ∙ sym q.outcome) in
    let served : r.served ≡ s.served = p.served ∙ sym q.served in
    let book : r.book ≡ s.book = p.book ∙ ap (book_after b refunds coefficients) served ∙ sym q.book in (
      λ i. record { outcome = outcome i; book = book i; served = served i },
      p.paid ∙ ap (payouts_after b refunds coefficients payouts) served ∙ sym q.paid,
      p.said ∙ ap (numbers_after b refunds coefficients numbers) served ∙ sym q.said,
    )
