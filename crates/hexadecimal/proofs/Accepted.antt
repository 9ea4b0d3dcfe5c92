-- The words that are read are exactly `-` and those of an even number of digits, figures and letters of either case. Assumes nothing.
use mathlib.Core.Path.{◌≡◌, refl, ap}
use mathlib.Core.Bool.{Bool, true, false, ◌&&◌, ◌||◌}
use mathlib.Core.List.{List, [], ◌∷◌}
use mathlib.Core.Logic.{◌⊎◌, inl, inr}
use Prim.Native.Nat.{ℕ, ◌%◌, ◌≤◌, ◌<◌}
use native.Mathlib.Decide.{dec_lt, dec_le}
use native.Mathlib.Omega.{arith}
use borrow.Author.Tests.{ltb-true, eqb-true, lt-ltb, eq-eqb}
use lib.Dec.{ltb, eqb}
use lib.ListN.{length, get_or}
use Rattle.lines.specs.Lines.{span}
use Rattle.lines.proofs.Spans.{span_le, span_inside, span_behind}
use Rattle.hexadecimal.specs.Hexadecimal.{worth_of, is_digit, is_pairs, is_dash, is_word}
use Rattle.hexadecimal.proofs.Worths.{below_figures, figure, below_capitals, capital, below_smalls, small, above_smalls}

-- "the digits 0 to 9 and a to f (capitals too when read)"
abbrev pub Digit : ℕ → Type 0
Digit b = ((48 ≤ b) × (b ≤ 57)) ⊎ (((65 ≤ b) × (b ≤ 70)) ⊎ ((97 ≤ b) × (b ≤ 102)))

-- "an even number of" them, some
pub record Pairs (word : List ℕ) : Type 0 where
  pub some : 0 < length word
  pub even : length word % 2 ≡ 0
  pub digits : (i : ℕ) → i < length word → Digit (get_or word i 0)

-- a byte of a worth below 16 is one of them
pub is_digit_lem : (b : ℕ) → worth_of b < 16 → Digit b
is_digit_lem b h = at (dec_lt b 48) (dec_le b 57) (dec_lt b 65) (dec_le b 70) (dec_lt b 97) (dec_le b 102)
  where
    at : Dec (b < 48) → Dec (b ≤ 57) → Dec (b < 65) → Dec (b ≤ 70) → Dec (b < 97) → Dec (b ≤ 102) → Digit b
    at (yes l) _ _ _ _ _ = absurd (omega (arith, below_figures b l))
    at (no k) (yes l) _ _ _ _ = inl (omega arith, l)
    at (no k) (no l) (yes m) _ _ _ = absurd (omega (arith, below_capitals b (omega arith) m))
    at (no k) (no l) (no m) (yes n) _ _ = inr (inl (omega arith, n))
    at (no k) (no l) (no m) (no n) (yes o) _ = absurd (omega (arith, below_smalls b (omega arith) o))
    at (no k) (no l) (no m) (no n) (no o) (yes p) = inr (inr (omega arith, p))
    at (no k) (no l) (no m) (no n) (no o) (no p) = absurd (omega (arith, above_smalls b (omega arith)))

pub digit_is : (b : ℕ) → Digit b → worth_of b < 16
digit_is b (inl d) = omega (arith, figure b d.0 d.1)
digit_is b (inr (inl d)) = omega (arith, capital b d.0 d.1)
digit_is b (inr (inr d)) = omega (arith, small b d.0 d.1)

both : (s t : Bool) → (s && t) ≡ true → (s ≡ true) × (t ≡ true)
both true true e = (refl, refl)
both true false e = let z : ◌≡◌ {A = ℕ} 0 1 = cc in absurd (omega arith)
both false t e = let z : ◌≡◌ {A = ℕ} 0 1 = cc in absurd (omega arith)

one_of : (s t : Bool) → (s || t) ≡ true → (s ≡ true) ⊎ (t ≡ true)
one_of true t e = inl refl
one_of false t e = inr e

dash_is : (word : List ℕ) → is_dash word ≡ true → word ≡ 45 ∷ []
unfolding is_dash
dash_is word e =
    let two = both (eqb (length word) 1) (eqb (get_or word 0 0) 45) e in
    at word (eqb-true (length word) 1 two.0) (eqb-true (get_or word 0 0) 45 two.1)
  where
    at : (word : List ℕ) → length word ≡ 1 → get_or word 0 0 ≡ 45 → word ≡ 45 ∷ []
    at [] l b = absurd (omega arith)
    at (c ∷ []) l b = ap (λ (x : ℕ). x ∷ []) b
    at (c ∷ (d ∷ rest)) l b = absurd (omega arith)

pub pairs_are : (word : List ℕ) → is_pairs word ≡ true → Pairs word
unfolding is_pairs
pairs_are word e =
    let two = both (ltb 0 (length word)) (eqb (length word % 2) 0 && eqb (span is_digit word) (length word)) e in
    let last = both (eqb (length word % 2) 0) (eqb (span is_digit word) (length word)) two.1 in
    let all : span is_digit word ≡ length word = eqb-true (span is_digit word) (length word) last.1 in
    record {
      some = ltb-true 0 (length word) two.0;
      even = eqb-true (length word % 2) 0 last.0;
      digits = λ i h. is_digit_lem (get_or word i 0) (ltb-true (worth_of (get_or word i 0)) 16 (span_inside is_digit word i (omega arith)));
    }

-- digits up to the end are all passed
pub all_passed : (word : List ℕ) → Pairs word → span is_digit word ≡ length word
all_passed word p = at (dec_lt (span is_digit word) (length word))
  where
    at : Dec (span is_digit word < length word) → span is_digit word ≡ length word
    at (no h) = omega (arith, span_le is_digit word)
    at (yes h) =
        let stops : is_digit (get_or word (span is_digit word) 0) ≡ false = span_behind is_digit word h in
        let passes : is_digit (get_or word (span is_digit word) 0) ≡ true =
        lt-ltb (worth_of (get_or word (span is_digit word) 0)) 16 (digit_is (get_or word (span is_digit word) 0) (p.digits (span is_digit word) h)) in
        let z : ◌≡◌ {A = ℕ} 0 1 = cc in
        absurd (omega arith)

pub accepted : (word : List ℕ) → is_word word ≡ true → (word ≡ 45 ∷ []) ⊎ Pairs word
accepted word e = at (one_of (is_dash word) (is_pairs word) e)
  where
    at : (is_dash word ≡ true) ⊎ (is_pairs word ≡ true) → (word ≡ 45 ∷ []) ⊎ Pairs word
    at (inl d) = inl (dash_is word d)
    at (inr p) = inr (pairs_are word p)

pub accepts : (word : List ℕ) → (word ≡ 45 ∷ []) ⊎ Pairs word → is_word word ≡ true
unfolding is_dash is_pairs
accepts word (inl e) = rw e
accepts word (inr p) =
    let full : is_pairs word ≡ true =
    rw (lt-ltb 0 (length word) p.some, eq-eqb (length word % 2) 0 p.even, eq-eqb (span is_digit word) (length word) (all_passed word p)) in
    either (is_dash word) full
  where
    either : (s : Bool) → is_pairs word ≡ true → (s || is_pairs word) ≡ true
    either true e = refl
    either false e = e
