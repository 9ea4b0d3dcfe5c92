-- Demand 3, "of each card by itself". After any history of postings, refunds and refused calls on a card's first book, the running totals are those
-- of document 01's rule at the card's net total N, and so add to N and lie between the exact shares rounded down and rounded up; whatever the batches.
-- What a history begins is a history, so all of it holds after each call. Assumes nothing.
use mathlib.Core.Path.{◌≡◌, sym, ap, ◌∙◌}
use mathlib.Core.List.{List}
use Prim.Native.Nat.{ℕ, ◌+◌, ◌≤◌, ◌<◌}
use native.Mathlib.Omega.{arith}
use lib.IntN.{pos}
use lib.ListN.{get_or}
use Rattle.refusal.specs.Rows.{gives, refuses}
use Rattle.whole.proofs.Sums.{sum_to, sum_list, sum_same}
use Rattle.amount.specs.declared.Amount.{Amount}
use Rattle.amount.specs.Amounts.{largest}
use Rattle.units.specs.Rule.{totals}
use Rattle.units.specs.Counted.{count_of}
use Rattle.units.proofs.Added.{length_totals, sum_totals}
use Rattle.units.proofs.Floor.{floor}
use Rattle.units.proofs.Ceiling.{ceiling}
use Rattle.units.proofs.Counted.{counted}
use Rattle.book.specs.declared.Book.{Book}
use Rattle.book.specs.declared.Moved.{Moved}
use Rattle.book.specs.Books.{partners, zeros}
use Rattle.book.specs.Moves.{net_of, post_said, refund_said, next_book, paid_of, taken_of, Posts, Refunds}
use Rattle.book.specs.History.{plus_of, Begins, History, refunded, postings, refunds, running, Kept}
use Rattle.book.proofs.Lists.{plus_place}
use Rattle.book.proofs.Calls.{Fresh, beginning}
use Rattle.book.proofs.Histories.{After, after}
use Rattle.book.proofs.NetIs.{net_of_history}

-- a call changes nothing of a book but its net total, which stays from 0 to L
pub record Contract (opened b : Book) : Type 0 where
  pub currency : b.currency ≡ opened.currency
  pub count : b.count ≡ opened.count
  pub weights : b.weights ≡ opened.weights
  pub card : b.card ≡ opened.card
  pub settled : b.settled ≡ opened.settled
  pub net : b.net ≡ pos (net_of b)
  pub limit : net_of b ≤ largest

module _ (opened : Book) (begins : Begins opened) where
  fresh : Fresh opened
  fresh = beginning begins

  module _ {b : Book} {paid taken : List ℕ} (h : History opened b paid taken) where
    ends : After opened b paid taken
    ends = after opened fresh h

    -- the book's contract never changes
    pub contract : Contract opened b
    unfolding next_book
    contract =
        let e = ends.stands.same in
        record {
          currency = ap (λ (x : Book). x.currency) e;
          count = ap (λ (x : Book). x.count) e;
          weights = ap (λ (x : Book). x.weights) e;
          card = ap (λ (x : Book). x.card) e;
          settled = ap (λ (x : Book). x.settled) e;
          net = ap (λ (x : Book). x.net) e;
          limit = ends.stands.limit;
        }

    by_rule_lem : (i : ℕ) → running paid taken i ≡ get_or (totals opened.weights (net_of b)) i 0
    by_rule_lem i = omega (arith, ends.places i)

    -- every running total is between its exact share rounded down and rounded up, the totals add to N, and they are the rule's
    pub kept : Kept b paid taken
    kept =
        rw contract.weights (record {
          covered = λ i. omega (arith, ends.places i);
          at_least = λ i. rw by_rule_lem (floor opened.weights fresh.some (net_of b) i);
          at_most = λ i. rw by_rule_lem (ceiling opened.weights fresh.some (net_of b) i);
          added = ends.added;
          by_rule = by_rule_lem;
        })

    -- N is the accepted postings less the accepted refunds
    pub net_is : net_of b + refunds h ≡ postings h
    net_is = net_of_history fresh h

    -- the running totals of the sixteen places add to N
    pub add_to_net : sum_to (running paid taken) partners ≡ net_of b
    add_to_net =
        let ts : List ℕ = totals opened.weights (net_of b) in
        sum_same (running paid taken) (λ i. get_or ts i 0) partners (λ i l. by_rule_lem i)
        ∙ sum_list ts partners (length_totals opened.weights (net_of b) ∙ fresh.sixteen)
        ∙ sum_totals opened.weights fresh.some (net_of b)

    -- every unit paid and not taken back is one of the partner's units among the first N
    pub counts : (i : ℕ) → i < partners → running paid taken i ≡ count_of b.weights i (net_of b)
    counts i l = rw contract.weights (by_rule_lem i ∙ counted opened.weights i (net_of b) (rw fresh.sixteen l))

  module _ {b : Book} {paid taken : List ℕ} (h : History opened b paid taken) (a : Amount) (r : Moved) (i : ℕ) where
    -- a posting raises a running total by its payout, and so lowers none
    pub posting_adds : Posts b a r → running (plus_of paid r.payouts) taken i ≡ running paid taken i + get_or r.payouts i 0
    posting_adds p = rw plus_place (omega (arith, (kept h).covered i))

    pub posting_never_lowers : Posts b a r → running paid taken i ≤ running (plus_of paid r.payouts) taken i
    posting_never_lowers p = omega (arith, posting_adds p)

    -- a refund lowers a running total by its payout, and so raises none
    pub refund_lowers : Refunds b a r → running paid taken i ≡ running paid (plus_of taken r.payouts) i + get_or r.payouts i 0
    refund_lowers p = omega (arith, (kept (refunded h a r p)).covered i, plus_place taken r.payouts i)

    pub refund_never_raises : Refunds b a r → running paid (plus_of taken r.payouts) i ≤ running paid taken i
    refund_never_raises p = omega (arith, refund_lowers p)

  -- two histories with the same N end with the same book and the same totals: a re-run with other batches changes nothing
  pub same_net : {b b' : Book} {paid taken paid' taken' : List ℕ} → History opened b paid taken → History opened b' paid' taken'
      → net_of b ≡ net_of b' → (b ≡ b') × ((i : ℕ) → running paid taken i ≡ running paid' taken' i)
  same_net h k e = (
    (ends h).stands.same ∙ ap (λ (n : ℕ). next_book opened (gives n)) e ∙ sym (ends k).stands.same,
    λ i. by_rule_lem h i ∙ ap (λ (n : ℕ). get_or (totals opened.weights n) i 0) e ∙ sym (by_rule_lem k i),
  )

-- a refused call pays nothing and changes nothing
module _ (b : Book) (a : Amount) (r : Moved) (n k : ℕ) where
  pub refused_posting : post_said b a ≡ refuses n k → Posts b a r → (r.book ≡ b) × (r.payouts ≡ zeros)
  unfolding paid_of next_book
  refused_posting e p = (p.book ∙ ap (next_book b) e, p.paid ∙ ap (paid_of b) e)

  pub refused_refund : refund_said b a ≡ refuses n k → Refunds b a r → (r.book ≡ b) × (r.payouts ≡ zeros)
  unfolding taken_of next_book
  refused_refund e p = (p.book ∙ ap (next_book b) e, p.paid ∙ ap (taken_of b) e)
