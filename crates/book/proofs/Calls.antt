-- What one call does to a book, whatever the book: an accepted posting or refund moves the net total by the amount, within L, and pays
-- the units that lie between; a refused one moves nothing and pays nothing. A value is given only where no row holds, and the
-- rows then say the rest. Assumes nothing.
use Rattle.std.specs.Prelude.{Result, Ok}
use mathlib.Core.Path.{◌≡◌, refl, sym, ap, ◌∙◌}
use mathlib.Core.Bool.{true, false}
use mathlib.Core.List.{List, [], ◌∷◌}
use Prim.Native.Nat.{ℕ, ◌+◌, ◌-◌, ◌≤◌}
use native.Mathlib.Omega.{arith}
use borrow.Author.Tests.{ltb-false}
use lib.ListN.{get_or, length, length-append, length-replicate}
use Rattle.refusal.specs.Rows.{Said, gives, refuses, Row, row, first_row, means}
use Rattle.refusal.proofs.Check.{Clear}
use Rattle.whole.specs.Sums.{sum_of}
use Rattle.whole.proofs.Sums.{get_d_noughts, sum_noughts}
use Rattle.amount.specs.declared.Amount.{Amount}
use Rattle.currency.specs.declared.Currency.{Currency}
use Rattle.amount.specs.Amounts.{largest}
use Rattle.units.specs.Rule.{totals}
use Rattle.units.proofs.Added.{sum_totals, never_fall}
use Rattle.book.specs.declared.Book.{Book}
use Rattle.book.specs.declared.Moved.{Moved}
use Rattle.book.specs.Books.{partners, zeros, weight_rows, with_book}
use Rattle.book.specs.Cards.{new_card, carded_rows, card_said, card_book, Cards}
use Rattle.book.specs.History.{Begins, opened_by, carded_by}
use Rattle.book.specs.Moves.{net_of, units_of, move_rows, post_rows, refund_rows, post_said, refund_said, next_book, less_of, paid_of, taken_of, Answers, Posts, Refunds, Opens, open_rows, open_said, open_book}
use Rattle.running.proofs.Places.{less_place, less_sum}
use Rattle.refusal.specs.declared.Refusal.{Refusal}
use Rattle.book.proofs.Lists.{sum_padded}

-- a value is given where no row holds
pub no_row : {A : Type 0} (rows : List Row) (v w : A) → first_row rows (gives v) ≡ gives w → Clear rows × (v ≡ w)
no_row [] v w e = (tt, cc)
no_row (row r true ∷ rows) v w e = let z : ◌≡◌ {A = ℕ} 0 1 = cc in absurd (omega arith)
no_row (row r false ∷ rows) v w e = let c = no_row rows v w e in ((refl, c.0), c.1)

module _ (b : Book) (a : Amount) (n : ℕ) where
  -- an accepted posting of A moves N to N + A
  pub posting_moves : post_said b a ≡ gives n → (1 ≤ sum_of b.weights) × (net_of b + units_of a ≡ n) × (n ≤ largest)
  unfolding post_said move_rows with_book weight_rows
  posting_moves e =
      let c = no_row (post_rows b a) (net_of b + units_of a) n e in omega (arith, ltb-false)

  -- an accepted refund of A moves N to N - A
  pub refund_moves : refund_said b a ≡ gives n → (1 ≤ sum_of b.weights) × (n + units_of a ≡ net_of b) × (n ≤ largest)
  unfolding refund_said move_rows with_book weight_rows
  refund_moves e =
      let c = no_row (refund_rows b a) (net_of b - units_of a) n e in omega (arith, ltb-false)

-- the payouts are, place by place, the units between two net totals, and add to the distance
pub record Between (ws : List ℕ) (low high : ℕ) (payouts : List ℕ) : Type 0 where
  pub places : (i : ℕ) → get_or payouts i 0 + get_or (totals ws low) i 0 ≡ get_or (totals ws high) i 0
  pub adds : sum_of payouts + low ≡ high

between : (ws : List ℕ) (low high : ℕ) → 1 ≤ sum_of ws → low ≤ high → Between ws low high (less_of (totals ws high) (totals ws low))
between ws low high some h =
    let rises : (i : ℕ) → get_or (totals ws low) i 0 ≤ get_or (totals ws high) i 0 = never_fall ws some low high h in
    record {
      places = λ i. rw less_place (omega (arith, rises i));
      adds = omega (arith, less_sum (totals ws high) (totals ws low) rises, sum_totals ws some low, sum_totals ws some high);
    }

none_between : (ws : List ℕ) (n : ℕ) → Between ws n n zeros
none_between ws n = record { places = λ i. rw (get_d_noughts partners i) (omega arith); adds = rw (sum_noughts partners) (omega arith) }

module _ (b : Book) (a : Amount) (r : Moved) where
  -- a posting pays the units from the old net total to the new one
  pub posting_pays : Posts b a r → Between b.weights (net_of b) (net_of r.book) r.payouts
  unfolding paid_of next_book
  posting_pays = go (post_said b a) refl
    where
      go : (s : Said ℕ) → post_said b a ≡ s → Answers b s (paid_of b s) r → Between b.weights (net_of b) (net_of r.book) r.payouts
      go (gives n) e p = let m = posting_moves b a n e in rw (p.book, p.paid) (between b.weights (net_of b) n m.0 (omega arith))
      go (refuses n k) e p = rw (p.book, p.paid) (none_between b.weights (net_of b))

  -- a refund takes back the units from the new net total to the old one
  pub refund_takes : Refunds b a r → Between b.weights (net_of r.book) (net_of b) r.payouts
  unfolding taken_of next_book
  refund_takes = go (refund_said b a) refl
    where
      go : (s : Said ℕ) → refund_said b a ≡ s → Answers b s (taken_of b s) r → Between b.weights (net_of r.book) (net_of b) r.payouts
      go (gives n) e p = let m = refund_moves b a n e in rw (p.book, p.paid) (between b.weights n (net_of b) m.0 (omega arith))
      go (refuses n k) e p = rw (p.book, p.paid) (none_between b.weights (net_of b))

  -- where it is accepted, that is N + A, or N - A
  pub posting_net : (n : ℕ) → post_said b a ≡ gives n → Posts b a r → net_of r.book ≡ net_of b + units_of a
  unfolding next_book
  posting_net n e p = ap net_of (p.book ∙ ap (next_book b) e) ∙ sym (posting_moves b a n e).1

  pub refund_net : (n : ℕ) → refund_said b a ≡ gives n → Refunds b a r → net_of r.book + units_of a ≡ net_of b
  unfolding next_book
  refund_net n e p = ap (λ (x : Book). net_of x + units_of a) (p.book ∙ ap (next_book b) e) ∙ (refund_moves b a n e).1

-- the book is the opened one but for its net total, which lies within L
pub record Stands (opened b : Book) : Type 0 where
  pub same : b ≡ next_book opened (gives (net_of b))
  pub limit : net_of b ≤ largest

module _ (opened b : Book) (r : Moved) (stands : Stands opened b) where
  -- so is the next one
  next : (s : Said ℕ) (payouts : List ℕ) → ((n : ℕ) → s ≡ gives n → n ≤ largest) → Answers b s payouts r → Stands opened r.book
  unfolding next_book
  next (gives n) ps h p = rw p.book (record { same = ap (λ (x : Book). next_book x (gives n)) stands.same; limit = h n refl })
  next (refuses n k) ps h p = rw p.book stands

  pub posting_stands : (a : Amount) → Posts b a r → Stands opened r.book
  posting_stands a = next (post_said b a) (paid_of b (post_said b a)) (λ n e. (posting_moves b a n e).2)

  pub refund_stands : (a : Amount) → Refunds b a r → Stands opened r.book
  refund_stands a = next (refund_said b a) (taken_of b (refund_said b a)) (λ n e. (refund_moves b a n e).2)

-- a card's first book: sixteen places, someone has a weight, and nothing has been paid
pub record Fresh (opened : Book) : Type 0 where
  pub sixteen : length opened.weights ≡ partners
  pub some : 1 ≤ sum_of opened.weights
  pub empty : net_of opened ≡ 0
  pub stands : Stands opened opened

pub opening : (c : Currency) (ws : List ℕ) (opened : Book) → open_said c ws ≡ gives opened → Fresh opened
unfolding open_said weight_rows open_book next_book
opening c ws opened e =
    let k = no_row (open_rows c ws) (open_book c ws) opened e in
    rw (← k.1) (record {
      sixteen = simp (length-append, length-replicate) (omega (arith, ltb-false));
      some = rw sum_padded (omega (arith, ltb-false));
      empty = refl;
      stands = record { same = refl; limit = omega arith };
    })

-- an accepted new card's is so too
pub carding : (b : Book) (ws : List ℕ) (next : Book) → card_said b ws ≡ gives next → Fresh next
unfolding card_said new_card with_book weight_rows next_book
carding b ws next e =
    let k = no_row (carded_rows b ws) (new_card b ws) next e in
    rw (← k.1) (record {
      sixteen = simp (length-append, length-replicate) (omega (arith, ltb-false));
      some = rw sum_padded (omega (arith, ltb-false));
      empty = refl;
      stands = record { same = refl; limit = omega arith };
    })

pub beginning : {b : Book} → Begins b → Fresh b
beginning (opened_by c ws b e) = opening c ws b e
beginning (carded_by old ws b e) = carding old ws b e

-- a refused new card changes nothing and pays nothing
pub refused_card : (b : Book) (ws : List ℕ) (r : Moved) (n k : ℕ) → card_said b ws ≡ refuses n k → Cards b ws r → (r.book ≡ b) × (r.payouts ≡ zeros)
unfolding card_book
refused_card b ws r n k e p = (p.book ∙ ap (card_book b) e, p.paid)

-- an opening that passed was accepted, and gave the book that it answered
pub passed_opening : (c : Currency) (ws : List ℕ) (r : Result Book Refusal) (b : Book) → Opens c ws r → r ≡ Ok b → open_said c ws ≡ gives b
passed_opening c ws r b p e = sym p ∙ ap means e
