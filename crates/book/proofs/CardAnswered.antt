-- From the check of a new card to its promise: one test of row 9 in place of the rows of the new weights, what passed is ready for a new card,
-- and the running totals added place by place are what the definition adds. Assumes nothing.
use Rattle.std.specs.Prelude.{Ok, Err}
use mathlib.Core.Path.{◌≡◌, refl, sym, ap, ◌∙◌}
use mathlib.Core.Bool.{Bool, true, false, not, cond}
use mathlib.Core.List.{List, [], ◌∷◌, ◌++◌}
use Prim.Native.Nat.{ℕ, ◌+◌, ◌≤◌}
use native.Mathlib.Omega.{arith}
use borrow.Author.Tests.{ltb-false}
use lib.Dec.{ltb, eqb}
use lib.IntN.{pos}
use lib.ListN.{length, get_or, drop}
use Rattle.refusal.specs.declared.Refusal.{Refusal}
use Rattle.refusal.specs.declared.Refusal.TheVariants.{Weights, Room}
use Rattle.refusal.specs.Number.{number_of, blamed_of}
use Rattle.refusal.specs.Rows.{gives, refuses, Row, row, check_of}
use Rattle.refusal.proofs.Check.{passed, refused, clear}
use Rattle.whole.specs.Sums.{sum_of}
use Rattle.whole.specs.Whole.{negative, magnitude_of}
use Rattle.whole.specs.Lists.{filled}
use Rattle.whole.proofs.Lists.{filled_all}
use Rattle.whole.proofs.Sums.{place_within}
use Rattle.amount.specs.Amounts.{largest}
use Rattle.units.specs.Rule.{totals}
use Rattle.units.proofs.Added.{length_totals, sum_totals}
use Rattle.book.specs.declared.Book.{Book}
use Rattle.book.specs.Settled.{added_to}
use Rattle.book.specs.Books.{partners, weight_sum, zeros, cards, net_of, weight_rows, rows3, rows4, rows9, rows10, with_book, listed_rows}
use Rattle.book.specs.Cards.{new_card, carded_rows, card_said, card_book, Cards}
use Rattle.book.specs.Checks.{refused_in, breaks_by, Ready, added_by}
use Rattle.book.proofs.Given.{same_check}
use Rattle.book.proofs.Given.{listed_passed, book_fit, book_settled}
use Rattle.book.proofs.SettledTotals.{none_at, up_from, place_above, length_added, added_place, not_negative}

-- rows of number 9 that are asked one after the other, and whether one of them holds
abbrev nines : List Bool → List Row
nines [] = []
nines (x ∷ xs) = row Weights x ∷ nines xs

abbrev any_of : List Bool → Bool
any_of [] = false
any_of (x ∷ xs) = cond x true (any_of xs)

as_one : (xs : List Bool) (rows : List Row) → check_of (nines xs ++ rows) ≡ check_of (row Weights (any_of xs) ∷ rows)
as_one [] rows = refl
as_one (true ∷ xs) rows = refl
as_one (false ∷ xs) rows = as_one xs rows

refused_as_one : (xs : List Bool) → refused_in (check_of (nines xs)) ≡ any_of xs
refused_as_one [] = refl
refused_as_one (true ∷ xs) = refl
refused_as_one (false ∷ xs) = refused_as_one xs

module _ (b : Book) (ws : List ℕ) where
  -- the tests of the weights' rule
  abbrev rule : List Bool
  rule = ltb (length ws) 1 ∷ ltb partners (length ws) ∷ ltb 0 (sum_of (drop (length ws) ws)) ∷ ltb (sum_of ws) 1 ∷ ltb weight_sum (sum_of ws) ∷ []

  abbrev tests : List Bool
  tests = not (eqb (length ws) b.count) ∷ ltb cards (b.card + 1) ∷ rule

  breaks_any : breaks_by b.count b.card ws ≡ any_of tests
  unfolding breaks_by weight_rows
  breaks_any = ap (λ (x : Bool). cond (not (eqb (length ws) b.count)) true (cond (ltb cards (b.card + 1)) true x)) (refused_as_one rule)

  -- the rows of a new card, with one test in place of those of the new weights
  pub card_check : check_of (listed_rows b (breaks_by b.count b.card ws) false) ≡ check_of (carded_rows b ws)
  unfolding listed_rows with_book weight_rows
  card_check =
      same_check (rows3 b ++ (rows4 b ++ rows9 b)) (row Weights (breaks_by b.count b.card ws) ∷ (rows10 b ++ (row Room false ∷ []))) (nines tests ++ rows10 b)
      (ap (λ (x : Bool). check_of (row Weights x ∷ (rows10 b ++ (row Room false ∷ [])))) breaks_any
      ∙ same_check (row Weights (any_of tests) ∷ []) (rows10 b ++ (row Room false ∷ [])) (rows10 b) (same_check (rows10 b) (row Room false ∷ []) [] refl)
      ∙ sym (as_one tests (rows10 b)))

  -- what passed
  pub card_ready : check_of (listed_rows b (breaks_by b.count b.card ws) false) ≡ Ok tt → Ready b × (length ws ≤ partners)
  unfolding with_book weight_rows
  card_ready e =
      let sound = (listed_passed b (breaks_by b.count b.card ws) false e).0 in
      let fit = book_fit b sound in
      let settled = book_settled b sound in
      let rows = (clear (carded_rows b ws) (sym card_check ∙ e)).1.1.1.1.1.1.1.1.1.1.1.1 in
      let card : b.card + 1 ≤ cards = ltb-false cards (b.card + 1) rows.1.0 in
      (record { some = fit.1; most = fit.2; signs = settled.1; limit = settled.2; further = omega arith }, ltb-false partners (length ws) rows.1.1.1.0)

  -- the answers
  pub card_refused : (refusal : Refusal) → check_of (listed_rows b (breaks_by b.count b.card ws) false) ≡ Err refusal
      → Cards b ws (record { outcome = Err refusal; book = b; payouts = zeros })
  unfolding card_said card_book
  card_refused refusal e =
      let said : card_said b ws ≡ refuses (number_of refusal) (blamed_of refusal) = refused (gives (new_card b ws)) (carded_rows b ws) refusal (sym card_check ∙ e) in
      record { outcome = sym said; book = sym (ap (card_book b) said); paid = refl }

  pub card_passed : (next : Book) → check_of (listed_rows b (breaks_by b.count b.card ws) false) ≡ Ok tt → next ≡ new_card b ws
      → Cards b ws (record { outcome = Ok tt; book = next; payouts = zeros })
  unfolding card_said card_book
  card_passed next e same =
      let said : card_said b ws ≡ gives (new_card b ws) = passed (gives (new_card b ws)) (carded_rows b ws) (sym card_check ∙ e) in
      record { outcome = ap gives same ∙ sym said; book = same ∙ sym (ap (card_book b) said); paid = refl }

-- the running totals of a book that is ready, added to its settled totals: each sum is within L
module _ (b : Book) (ready : Ready b) where
  abbrev now : List ℕ
  now = totals b.weights (net_of b)

  at_place : (i : ℕ) → get_or b.settled i (pos 0) ≡ pos (magnitude_of (get_or b.settled i (pos 0)))
  at_place i = not_negative (get_or b.settled i (pos 0)) (none_at negative refl b.settled ready.signs i)

  pub sums_fit : (i : ℕ) → magnitude_of (get_or b.settled i (pos 0)) + get_or now i 0 ≤ largest
  sums_fit i =
      omega (arith, place_above b.settled i, up_from (get_or b.settled i (pos 0)) (none_at negative refl b.settled ready.signs i), place_within now i, sum_totals b.weights ready.some (net_of b), ready.limit)

  pub added_are : length b.settled ≡ partners → length b.weights ≡ partners → added_by b.settled now ≡ added_to b.settled now
  unfolding added_by
  added_are long wide =
      let short : length now ≤ length b.settled = omega (arith, length_totals b.weights (net_of b)) in
      ap (λ (n : ℕ). filled 0 (λ i. pos (magnitude_of (get_or b.settled i (pos 0)) + get_or now i 0)) n b.settled) (sym long)
      ∙ filled_all (λ i. pos (magnitude_of (get_or b.settled i (pos 0)) + get_or now i 0)) b.settled (pos 0) (added_to b.settled now)
      (length_added b.settled now)
      (λ k below. sym (added_place b.settled now k (magnitude_of (get_or b.settled k (pos 0))) short (at_place k)))
