-- Which number a call gives for a book that is broken in one field, where nothing else is: 3 for a net total or a settled total over L, or their
-- sum, 4 for an unknown currency, 9 for weights, a card number or settled totals that break their rule, 10 for a negative net total or settled
-- total. Once for every call on a book, whatever else it takes, and then of a posting, a refund, a new card and the running totals. Assumes nothing.
use mathlib.Core.Path.{◌≡◌, refl, ap, ◌∙◌}
use mathlib.Core.Bool.{Bool, true, false, not}
use mathlib.Core.List.{List, [], ◌∷◌, ◌++◌}
use Prim.Native.Nat.{ℕ, ◌+◌, ◌-◌, ◌<◌}
use native.Mathlib.Omega.{arith}
use borrow.Author.Tests.{lt-ltb}
use lib.Dec.{ltb}
use lib.IntN.{pos}
use lib.ListN.{get_or, take, drop}
use lib.Seq.{get_or-drop}
use Rattle.refusal.specs.Number.{number_of, blamed_of}
use Rattle.refusal.specs.Rows.{Said, gives, refuses, Row, row, first_row}
use Rattle.refusal.specs.declared.Refusal.{Refusal}
use Rattle.refusal.specs.declared.Refusal.TheVariants.{Magnitude, Weights, Negative, Refund, Limit}
use Rattle.refusal.proofs.Check.{Clear, behind}
use Rattle.whole.specs.Sums.{sum_of}
use Rattle.whole.specs.Whole.{negative, magnitude_of}
use Rattle.amount.specs.declared.Amount.{Amount}
use Rattle.amount.specs.Amounts.{largest, bad_scale, over_l}
use Rattle.currency.specs.Table.{last_currency, unknown, same}
use Rattle.currency.specs.Digits.{not_own_digits}
use Rattle.units.specs.Rule.{totals}
use Rattle.running.proofs.Places.{place_within}
use Rattle.book.specs.declared.Book.{Book}
use Rattle.book.specs.Settled.{any_negative, far_off, any_over, not_nought, past_count, sum_over}
use Rattle.book.specs.Books.{partners, weight_sum, cards, net_of, settled_sum, weight_rows, rows3, rows4, rows9, rows10, with_book}
use Rattle.book.specs.Moves.{units_of, move_rows, post_said, refund_said, totals_said}
use Rattle.book.specs.Cards.{new_card, new_rows, card_said}
use Rattle.book.specs.Broken.{BreaksRule, nobody, many, past, light, heavy, unnumbered, beyond, settled_past}
use Rattle.book.proofs.SettledTotals.{some_at}

-- a book broken in one field, and nowhere before it in the table's order
pub data BrokenBy (b : Book) : ℕ → Type 0 where
  over_limit : largest < net_of b → BrokenBy b 3
  settled_over : (i : ℕ) → largest < magnitude_of (get_or b.settled i (pos 0)) → BrokenBy b 3
  sum_too_large : sum_over (b.net ∷ b.settled) ≡ true → BrokenBy b 3
  unknown_currency : Clear (rows3 b) → last_currency < b.currency.0 → BrokenBy b 4
  broken_weights : Clear (rows3 b) → Clear (rows4 b) → BreaksRule b → BrokenBy b 9
  negative_net : Clear (rows3 b) → Clear (rows4 b) → Clear (rows9 b) → negative b.net ≡ true → BrokenBy b 10
  negative_settled : Clear (rows3 b) → Clear (rows4 b) → Clear (rows9 b) → (i : ℕ) → negative (get_or b.settled i (pos 0)) ≡ true → BrokenBy b 10

module _ {A : Type 0} (value : Said A) where
  skip : (front rows : List Row) → Clear front → first_row (front ++ rows) value ≡ first_row rows value
  skip [] rows c = refl
  skip (row r true ∷ front) rows c = let z : ◌≡◌ {A = ℕ} 0 1 = cc in absurd (omega arith)
  skip (row r false ∷ front) rows c = skip front rows c.1

  -- rows of one refusal, behind which one of it holds
  abbrev alike : Refusal → List Bool → List Row → List Row
  alike r [] rows = rows
  alike r (x ∷ xs) rows = row r x ∷ alike r xs rows

  one_holds : (r : Refusal) (xs : List Bool) (rows : List Row) → first_row (alike r xs (row r true ∷ rows)) value ≡ refuses (number_of r) (blamed_of r)
  one_holds r [] rows = refl
  one_holds r (true ∷ xs) rows = refl
  one_holds r (false ∷ xs) rows = one_holds r xs rows

  -- the tests of row 9 at a book, in turn
  abbrev tests : Book → List Bool
  tests b =
      ltb b.count 1
      ∷ ltb partners b.count
      ∷ ltb 0 (sum_of (drop b.count b.weights))
      ∷ ltb (sum_of b.weights) 1
      ∷ ltb weight_sum (sum_of b.weights)
      ∷ ltb b.card 1
      ∷ ltb cards b.card
      ∷ past_count b.count b.settled
      ∷ []

  weights_broken : (b : Book) (rows : List Row) → BreaksRule b → first_row (rows9 b ++ rows) value ≡ refuses 9 0
  unfolding weight_rows
  weights_broken b rows broken = go broken
    where
      go : BreaksRule b → first_row (rows9 b ++ rows) value ≡ refuses 9 0
      go (nobody h) = rw (lt-ltb b.count 1 h)
      go (many h) = rw (lt-ltb partners b.count h) (one_holds Weights (take 1 (tests b)) (alike Weights (drop 2 (tests b)) rows))
      go (past i h some) =
          let e : b.count + (i - b.count) ≡ i = omega arith in
          let there : get_or (drop b.count b.weights) (i - b.count) 0 ≡ get_or b.weights i 0 =
          get_or-drop b.count b.weights (i - b.count) 0 ∙ ap (λ (k : ℕ). get_or b.weights k 0) e in
          rw (lt-ltb 0 (sum_of (drop b.count b.weights)) (omega (arith, there, place_within (drop b.count b.weights) (i - b.count))))
          (one_holds Weights (take 2 (tests b)) (alike Weights (drop 3 (tests b)) rows))
      go (light h) = rw (lt-ltb (sum_of b.weights) 1 h) (one_holds Weights (take 3 (tests b)) (alike Weights (drop 4 (tests b)) rows))
      go (heavy h) = rw (lt-ltb weight_sum (sum_of b.weights) h) (one_holds Weights (take 4 (tests b)) (alike Weights (drop 5 (tests b)) rows))
      go (unnumbered h) = rw (lt-ltb b.card 1 h) (one_holds Weights (take 5 (tests b)) (alike Weights (drop 6 (tests b)) rows))
      go (beyond h) = rw (lt-ltb cards b.card h) (one_holds Weights (take 6 (tests b)) (alike Weights (drop 7 (tests b)) rows))
      go (settled_past i h some) =
          let e : b.count + (i - b.count) ≡ i = omega arith in
          let there : get_or (drop b.count b.settled) (i - b.count) (pos 0) ≡ get_or b.settled i (pos 0) =
          get_or-drop b.count b.settled (i - b.count) (pos 0) ∙ ap (λ (k : ℕ). get_or b.settled k (pos 0)) e in
          let one : not_nought (get_or (drop b.count b.settled) (i - b.count) (pos 0)) ≡ true =
          ap not_nought there ∙ lt-ltb 0 (magnitude_of (get_or b.settled i (pos 0))) some in
          rw (some_at not_nought refl (drop b.count b.settled) (i - b.count) one) (one_holds Weights (take 7 (tests b)) rows)

  -- whatever else a call takes, if that holds no row, and row 5 not where the book's currency is known
  module _ (b : Book) (two three four five nine ten : List Row) (c2 : Clear two) (c3 : Clear three) (c4 : Clear four) (c5 : Clear (rows4 b) → Clear five) (c9 : Clear nine)
      (c10 : Clear ten) where
    -- the rows behind each part of the list
    after9 : List Row
    after9 = nine ++ (ten ++ rows10 b)

    after4 : List Row
    after4 = five ++ (rows9 b ++ after9)

    after3 : List Row
    after3 = four ++ (rows4 b ++ after4)

    to3 : first_row (with_book b two three four five nine ten) value ≡ first_row (rows3 b ++ after3) value
    unfolding with_book after3 after4 after9
    to3 = skip two (three ++ (rows3 b ++ after3)) c2 ∙ skip three (rows3 b ++ after3) c3

    to4 : Clear (rows3 b) → first_row (with_book b two three four five nine ten) value ≡ first_row (rows4 b ++ after4) value
    unfolding after3
    to4 k3 = to3 ∙ skip (rows3 b) after3 k3 ∙ skip four (rows4 b ++ after4) c4

    to9 : Clear (rows3 b) → Clear (rows4 b) → first_row (with_book b two three four five nine ten) value ≡ first_row (rows9 b ++ after9) value
    unfolding after4
    to9 k3 k4 = to4 k3 ∙ skip (rows4 b) after4 k4 ∙ skip five (rows9 b ++ after9) (c5 k4)

    pub broken_call : (n : ℕ) → BrokenBy b n → first_row (with_book b two three four five nine ten) value ≡ refuses n 0
    unfolding after9
    broken_call n (over_limit h) = to3 ∙ rw (lt-ltb largest (net_of b) h)
    broken_call n (settled_over i h) =
        let over : any_over b.settled ≡ true = some_at far_off refl b.settled i (lt-ltb largest (magnitude_of (get_or b.settled i (pos 0))) h) in
        to3 ∙ rw over (one_holds Magnitude (over_l (net_of b) ∷ []) (row Magnitude (sum_over (b.net ∷ b.settled)) ∷ after3))
    broken_call n (sum_too_large h) = to3 ∙ rw h (one_holds Magnitude (over_l (net_of b) ∷ any_over b.settled ∷ []) after3)
    broken_call n (unknown_currency k3 h) = to4 k3 ∙ rw (lt-ltb last_currency b.currency.0 h)
    broken_call n (broken_weights k3 k4 h) = to9 k3 k4 ∙ weights_broken b after9 h
    broken_call n (negative_net k3 k4 k9 h) =
        to9 k3 k4 ∙ skip (rows9 b) (nine ++ (ten ++ rows10 b)) k9 ∙ skip nine (ten ++ rows10 b) c9 ∙ skip ten (rows10 b) c10 ∙ rw h
    broken_call n (negative_settled k3 k4 k9 i h) =
        let below : any_negative b.settled ≡ true = some_at negative refl b.settled i h in
        to9 k3 k4 ∙ skip (rows9 b) (nine ++ (ten ++ rows10 b)) k9 ∙ skip nine (ten ++ rows10 b) c9 ∙ skip ten (rows10 b) c10
        ∙ rw below (one_holds Negative (negative b.net ∷ []) [])

-- the running totals take nothing else
pub totals_broken : (b : Book) (n : ℕ) → BrokenBy b n → totals_said b ≡ refuses n 0
unfolding totals_said
totals_broken b n broken = broken_call (gives (totals b.weights (net_of b))) b [] [] [] [] [] [] tt tt tt (λ k. tt) tt tt n broken

-- a new card takes weights, which hold no row of their own
pub card_broken : (b : Book) (ws : List ℕ) (n : ℕ) → Clear (new_rows b ws) → BrokenBy b n → card_said b ws ≡ refuses n 0
unfolding card_said
card_broken b ws n fine broken = broken_call (gives (new_card b ws)) b [] [] [] [] (new_rows b ws) [] tt tt tt (λ k. tt) fine tt n broken

-- an amount that holds no row by itself, in the book's currency where that is known
pub record Fine (b : Book) (a : Amount) : Type 0 where
  pub scale : bad_scale a.scale ≡ false
  pub digits : not_own_digits a.currency a.scale ≡ false
  pub size : over_l (units_of a) ≡ false
  pub known : unknown a.currency ≡ false
  pub sign : negative a.coefficient ≡ false
  pub same : unknown b.currency ≡ false → same a.currency b.currency ≡ true

module _ (b : Book) (a : Amount) (n : ℕ) (broken : BrokenBy b n) where
  move_broken : {A : Type 0} (value : Said A) → Fine b a → first_row (move_rows b a) value ≡ refuses n 0
  unfolding move_rows
  move_broken value f =
      broken_call value b _ _ _ _ [] _ (f.scale, (f.digits, tt)) (f.size, tt) (f.known, tt) (λ k. (ap not (f.same k.0), tt)) tt (f.sign, tt) n broken

  pub post_broken : Fine b a → post_said b a ≡ refuses n 0
  unfolding post_said
  post_broken f = behind (gives (net_of b + units_of a)) (move_rows b a) (row Limit (over_l (settled_sum b + (net_of b + units_of a))) ∷ []) ∙ move_broken _ f

  pub refund_broken : Fine b a → refund_said b a ≡ refuses n 0
  unfolding refund_said
  refund_broken f = behind (gives (net_of b - units_of a)) (move_rows b a) (row Refund (ltb (net_of b) (units_of a)) ∷ []) ∙ move_broken _ f
