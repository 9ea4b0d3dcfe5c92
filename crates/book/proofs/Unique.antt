-- Two answers that a promise of the book allows are equal: the promise says the book and the lists outright, and an outcome is known by
-- what it says, as a refusal is by its number and the date that it blames. Assumes nothing.
use Rattle.std.specs.Prelude.{Result}
use Rattle.refusal.specs.declared.Refusal.{Refusal}
use mathlib.Core.Path.{◌≡◌, sym, ◌∙◌}
use mathlib.Core.List.{List}
use Prim.Native.Nat.{ℕ}
use Rattle.refusal.specs.Rows.{Said}
use Rattle.refusal.proofs.OneToOne.{one_said, same_outcome}
use Rattle.amount.specs.declared.Amount.{Amount}
use Rattle.currency.specs.declared.Currency.{Currency}
use Rattle.book.specs.declared.Book.{Book}
use Rattle.book.specs.declared.Moved.{Moved}
use Rattle.book.specs.Moves.{Answers, Posts, Refunds, Opens, open_said, Tallies, totals_said}
use Rattle.book.specs.Cards.{Cards}

same_answer : (b : Book) (said : Said ℕ) (payouts : List ℕ) (r s : Moved) → Answers b said payouts r → Answers b said payouts s → r ≡ s
same_answer b said payouts r s p q =
    let outcome : r.outcome ≡ s.outcome = same_outcome r.outcome s.outcome _ _ (p.outcome ∙ sym q.outcome) in
    let book : r.book ≡ s.book = p.book ∙ sym q.book in
    let paid : r.payouts ≡ s.payouts = p.paid ∙ sym q.paid in λ i. record { outcome = outcome i; book = book i; payouts = paid i }

pub one_post : (b : Book) (a : Amount) (r s : Moved) → Posts b a r → Posts b a s → r ≡ s
one_post b a = same_answer b _ _

pub one_refund : (b : Book) (a : Amount) (r s : Moved) → Refunds b a r → Refunds b a s → r ≡ s
one_refund b a = same_answer b _ _

pub one_card : (b : Book) (ws : List ℕ) (r s : Moved) → Cards b ws r → Cards b ws s → r ≡ s
one_card b ws r s p q =
    let outcome : r.outcome ≡ s.outcome = same_outcome r.outcome s.outcome _ _ (p.outcome ∙ sym q.outcome) in
    let book : r.book ≡ s.book = p.book ∙ sym q.book in
    let paid : r.payouts ≡ s.payouts = p.paid ∙ sym q.paid in λ i. record { outcome = outcome i; book = book i; payouts = paid i }

pub one_open : (c : Currency) (ws : List ℕ) (r s : Result Book Refusal) → Opens c ws r → Opens c ws s → r ≡ s
one_open c ws r s = one_said r s (open_said c ws)

pub one_totals : (b : Book) (r s : Result (List ℕ) Refusal) → Tallies b r → Tallies b s → r ≡ s
one_totals b r s = one_said r s (totals_said b)
