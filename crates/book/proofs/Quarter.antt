-- Ask 9's theorem. After any history over cards on an opened book, refused calls and refused cards among them: the settled totals are the closed
-- cards' totals by document 01's rule; "a partner's settled and running totals together add up over the book to all cards' N, and over c cards lie
-- less than c units from the exact sum". By induction on the cards; within a card by demand 3. Assumes nothing.
use mathlib.Core.Path.{◌≡◌, refl, sym, ap, ap₂, ◌∙◌}
use mathlib.Core.List.{List, [], ◌∷◌}
use Prim.Native.Nat.{ℕ, zero, suc, ◌+◌, ◌≤◌}
use native.Mathlib.Omega.{arith}
use lib.IntN.{ℤ, pos}
use lib.ListN.{length, get_or, replicate, length-replicate}
use Rattle.refusal.specs.Rows.{gives}
use Rattle.whole.specs.Whole.{magnitude_of}
use Rattle.whole.proofs.Sums.{sum_same}
use Rattle.amount.specs.declared.Amount.{Amount}
use Rattle.amount.specs.Amounts.{largest}
use Rattle.currency.specs.declared.Currency.{Currency}
use Rattle.units.specs.Rule.{totals}
use Rattle.units.proofs.Added.{length_totals, sum_totals}
use Rattle.book.specs.declared.Book.{Book}
use Rattle.book.specs.declared.Moved.{Moved}
use Rattle.book.specs.Books.{partners, net_of, settled_sum, with_book, weight_rows}
use Rattle.book.specs.Moves.{next_book, units_of, refund_said, Refunds, open_book, open_rows, open_said}
use Rattle.book.specs.Cards.{new_card, carded_rows, card_said, card_book}
use Rattle.book.specs.History.{Begins, opened_by, carded_by, History, Kept}
use Rattle.book.specs.Quarter.{Card, card_of, Quarter, begun, renewed, totals_on, how_many, together, Settles}
use Rattle.book.proofs.SettledTotals.{length_added, added_place, added_sum, limit_by}
use Rattle.book.proofs.Calls.{no_row, beginning, refund_moves}
use Rattle.book.proofs.Demand3.{contract, kept}
use Rattle.book.proofs.OverCards.{Sixteen, All, none, more, near, all_net_lem}

-- a card's first book: what it begins with
record First (first : Book) (closed : List Card) : Type 0 where
  begins : Begins first
  long : length first.settled ≡ partners
  each : (i : ℕ) → get_or first.settled i (pos 0) ≡ pos (totals_on i closed)
  number : first.card ≡ how_many closed + 1
  all : All closed

noughts : (n i : ℕ) → ◌≡◌ {A = ℤ} (get_or (replicate n (pos 0)) i (pos 0)) (pos 0)
noughts zero i = refl
noughts (suc n) zero = refl
noughts (suc n) (suc i) = noughts n i

-- a card in its history: its weights are the first book's
module _ {first b : Book} {paid taken : List ℕ} (begins : Begins first) (h : History first b paid taken) where
  sixteen : Sixteen (card_of b)
  sixteen =
      let fresh = beginning begins in
      let same = (contract first begins h).weights in
      record { long = ap length same ∙ fresh.sixteen; some = rw same fresh.some }

module _ (c : Currency) (ws : List ℕ) (opened : Book) (accepted : open_said c ws ≡ gives opened) where
  at_first : First opened []
  unfolding open_said open_book totals_on how_many
  at_first =
      let e = (no_row (open_rows c ws) (open_book c ws) opened accepted).1 in
      rw (← e) (record {
        begins = opened_by c ws (open_book c ws) (accepted ∙ ap gives (sym e));
        long = length-replicate partners (pos 0);
        each = λ i. noughts partners i;
        number = refl;
        all = none;
      })

  firsts : {first b : Book} {paid taken : List ℕ} {closed : List Card} → Quarter opened first b paid taken closed → First first closed × History first b paid taken
  unfolding card_said card_book new_card totals_on how_many
  firsts (begun h) = (at_first, h)
  firsts (renewed {first = first} {b = b} {closed = closed} q ws r p next e h) =
      let before = firsts q in
      let f = before.0 in
      let k = contract first f.begins before.1 in
      let card = sixteen f.begins before.1 in
      let made : new_card b ws ≡ next = (no_row (carded_rows b ws) (new_card b ws) next e).1 in
      let book : r.book ≡ new_card b ws = p.book ∙ ap (card_book b) e ∙ sym made in
      let now = totals b.weights (net_of b) in
      let long : length b.settled ≡ partners = ap length k.settled ∙ f.long in
      let fits : length now ≤ length b.settled = omega (arith, length_totals b.weights (net_of b), card.long) in (
        record {
          begins = carded_by b ws r.book (e ∙ ap gives (sym made ∙ sym book));
          long = ap (λ (x : Book). length x.settled) book ∙ length_added b.settled now ∙ long;
          each = λ i. ap (λ (x : Book). get_or x.settled i (pos 0)) book
              ∙ added_place b.settled now i (totals_on i closed) fits (ap (λ (l : List ℤ). get_or l i (pos 0)) k.settled ∙ f.each i);
          number = ap (λ (x : Book). x.card) book ∙ ap (λ (n : ℕ). n + 1) (k.card ∙ f.number);
          all = more card f.all;
        },
        h,
      )

  -- THE THEOREM
  pub settles : {first b : Book} {paid taken : List ℕ} {closed : List Card} → Quarter opened first b paid taken closed → Settles b paid taken closed
  unfolding totals_on how_many
  settles {first} {b} {paid} {taken} {closed} q =
      let f = (firsts q).0 in
      let h = (firsts q).1 in
      let k = contract first f.begins h in
      let all = more (sixteen f.begins h) f.all in
      let settled : (i : ℕ) → get_or b.settled i (pos 0) ≡ pos (totals_on i closed) = λ i. ap (λ (l : List ℤ). get_or l i (pos 0)) k.settled ∙ f.each i in
      let each : (i : ℕ) → together b paid taken i ≡ totals_on i (card_of b ∷ closed) =
      λ i. ap₂ ◌+◌ (ap magnitude_of (settled i)) ((kept first f.begins h).by_rule i) in
      let number : b.card ≡ how_many (card_of b ∷ closed) = k.card ∙ f.number in
      record {
        settled = settled;
        each = each;
        added = sum_same (together b paid taken) (λ i. totals_on i (card_of b ∷ closed)) partners (λ i l. each i) ∙ all_net_lem (card_of b ∷ closed) all;
        number = number;
        not_above = λ i. rw (each i, number) (near i (card_of b) closed all).0;
        not_below = λ i. rw (each i, number) (near i (card_of b) closed all).1;
      }

  -- "Demand 3 then speaks of each card by itself"
  pub each_card : {first b : Book} {paid taken : List ℕ} {closed : List Card} → Quarter opened first b paid taken closed → Kept b paid taken
  each_card {first} q = kept first (firsts q).0.begins (firsts q).1

  -- a new card moves nothing over L: settled totals and N sum to what they did
  pub card_keeps_sum : {first b : Book} {paid taken : List ℕ} {closed : List Card} → Quarter opened first b paid taken closed
      → (ws : List ℕ) (next : Book) → card_said b ws ≡ gives next → (settled_sum next + net_of next ≡ settled_sum b + net_of b) × (settled_sum next + net_of next ≤ largest)
  unfolding card_said new_card with_book weight_rows
  card_keeps_sum {first} {b} q ws next e =
      let f = (firsts q).0 in
      let h = (firsts q).1 in
      let card = sixteen f.begins h in
      let rows = no_row (carded_rows b ws) (new_card b ws) next e in
      let signs = rows.0.1.1.1.1.1.1.1.1.1.1.1.1.1.1.1.1.1.1.1 in
      let now = totals b.weights (net_of b) in
      let long : length b.settled ≡ partners = ap length (contract first f.begins h).settled ∙ f.long in
      let fits : length now ≤ length b.settled = omega (arith, length_totals b.weights (net_of b), card.long) in
      let limit : settled_sum b + net_of b ≤ largest = limit_by b.net b.settled rows.0.1.1.0 signs.0 signs.1.0 in
      let grown = added_sum b.settled now fits signs.1.0 in
      let sum : settled_sum next + net_of next ≡ settled_sum b + net_of b = rw (← rows.1) (omega (arith, grown, sum_totals b.weights card.some (net_of b))) in
      (sum, omega (arith, sum, limit))

-- "A refund can't reach behind the card's opening: 12 compares with the card's N": an accepted one is at most the card's N and leaves the card's number and
-- the settled totals as they were
pub refund_within_card : (b : Book) (a : Amount) (r : Moved) (n : ℕ) → refund_said b a ≡ gives n → Refunds b a r
    → (units_of a ≤ net_of b) × (r.book.card ≡ b.card) × (r.book.settled ≡ b.settled)
unfolding next_book
refund_within_card b a r n e p =
    let same : r.book ≡ next_book b (gives n) = p.book ∙ ap (next_book b) e in
    (omega (arith, (refund_moves b a n e).1), ap (λ (x : Book). x.card) same, ap (λ (x : Book). x.settled) same)

-- so on a new card nothing can be taken back before it is posted
pub fresh_card_refunds_nothing : (b : Book) (ws : List ℕ) (next : Book) → card_said b ws ≡ gives next → (a : Amount) (n : ℕ) → refund_said next a ≡ gives n → units_of a ≡ 0
fresh_card_refunds_nothing b ws next e a n accepted = omega (arith, (refund_moves next a n accepted).1, (beginning (carded_by b ws next e)).empty)
