-- Row 14 holds exactly for the bytes that the grammar hasn't: a text of the grammar passes every test of the bytes, and what passes them is in the grammar, by the parts that
-- the tests find. Assumes nothing.
use mathlib.Core.Path.{◌≡◌, refl, sym, ◌∙◌, ap, ap₂, subst}
use mathlib.Core.Bool.{Bool, true, false, cond, not, ◌&&◌, ◌||◌}
use mathlib.Core.List.{List, [], ◌∷◌, ◌++◌}
use mathlib.Core.Logic.{◌↔◌}
use Prim.Native.Nat.{ℕ, suc, ◌+◌, ◌-◌, ◌≤◌, ◌<◌}
use native.Mathlib.Nat.{add-zero}
use native.Mathlib.Numerals.{add-one}
use native.Mathlib.Decide.{dec_lt}
use native.Mathlib.Omega.{arith}
use borrow.Author.Tests.{lt-ltb, le-ltb, lt-leb, eq-eqb, ne_eqb, ltb-false, leb-false, eqb-true, eqb-false, not-false}
use lib.Dec.{leb, ltb, eqb}
use lib.ListN.{length, get_or, take, drop, length-append, length-drop, take-append-drop, drop_of_length-le, get_or-append}
use lib.Seq.{slice, slice-cons, length-slice, drop-append-add, get_or-append-add, drop-cons, drop-drop}
use Rattle.lines.specs.Lines.{span, is_digit}
use Rattle.lines.proofs.Scans.{part}
use Rattle.lines.proofs.Spans.{span_le}
use Rattle.text.specs.Grammar.{Digits, none, more, minus, pointed, number, Text, Accepted}
use Rattle.text.specs.Read.{negative_in, start_in, digits_end, end_in, fraction_from, number_at, bad_whole, bad_fraction, bad_shape, signed_zero, malformed}
use Rattle.text.proofs.Digits.{scanned, passed}
use Rattle.text.proofs.Spelled.{passed_digits}
use Rattle.text.proofs.Parts.{sign_is, start_is, end_is, number_there}

-- two tests that both fail
neither : (a b : Bool) → a ≡ false → b ≡ false → (a || b) ≡ false
neither a b e f = rw (e, f)

pub both_fail : (a b : Bool) → (a || b) ≡ false → (a ≡ false) × (b ≡ false)
both_fail true b e = let z : ◌≡◌ {A = ℕ} 0 1 = cc in absurd (omega arith)
both_fail false b e = (refl, e)

-- and two of which one does
one_fails : (a b : Bool) → (a && b) ≡ false → a ≡ true → b ≡ false
one_fails true b e h = e
one_fails false b e h = let z : ◌≡◌ {A = ℕ} 0 1 = cc in absurd (omega arith)

pub first_fails : (a b : Bool) → a ≡ false → (a && b) ≡ false
first_fails a b e = rw e

last_fails : (a b : Bool) → b ≡ false → (a && b) ≡ false
last_fails true b e = e
last_fails false b e = refl

-- the text of a sign p, digits w and places f, by its places
module _ (p w f : List ℕ) (ds : Digits w) (some : 0 < length w) where
  abbrev text : List ℕ
  text = p ++ (w ++ pointed f)

  abbrev end : ℕ
  end = length p + length w

  long : length text ≡ end + length (pointed f)
  long = rw (length-append p (w ++ pointed f), length-append w (pointed f)) (omega arith)

  first : get_or text (length p) 0 ≡ get_or w 0 0
  first =
      ap (λ (k : ℕ). get_or text k 0) (sym (add-zero (length p))) ∙ get_or-append-add p (w ++ pointed f) 0 0 ∙ get_or-append w (pointed f) 0 0 some

  whole_good : (get_or w 0 0 ≡ 48 → length w ≡ 1) → bad_whole text (length p) end ≡ false
  whole_good plain = neither (leb end (length p)) _ (lt-leb end (length p) (omega arith)) (by (dec_lt 1 (length w)))
    where
      by : Dec (1 < length w) → (eqb (get_or text (length p) 0) 48 && ltb (length p + 1) end) ≡ false
      by (yes l) = first_fails _ _ (ne_eqb (get_or text (length p) 0) 48 (λ e. omega (arith, plain (sym first ∙ e))))
      by (no l) = last_fails (eqb (get_or text (length p) 0) 48) _ (le-ltb (length p + 1) end (omega arith))

-- the places behind the point
module _ (p w : List ℕ) (b : ℕ) (bs : List ℕ) where
  abbrev pointed_text : List ℕ
  pointed_text = p ++ (w ++ 46 ∷ b ∷ bs)

  abbrev at_end : ℕ
  at_end = length p + length w

  pointed_long : length pointed_text ≡ at_end + suc (suc (length bs))
  pointed_long = rw (length-append p (w ++ 46 ∷ b ∷ bs), length-append w (46 ∷ b ∷ bs)) (omega arith)

  at_point : get_or pointed_text at_end 0 ≡ 46
  at_point =
      get_or-append-add p (w ++ 46 ∷ b ∷ bs) (length w) 0 ∙ ap (λ (k : ℕ). get_or (w ++ 46 ∷ b ∷ bs) k 0) (sym (add-zero (length w)))
      ∙ get_or-append-add w (46 ∷ b ∷ bs) 0 0

  behind : drop (at_end + 1) pointed_text ≡ b ∷ bs
  behind =
      ap (λ (k : ℕ). drop k pointed_text) {x = at_end + 1} {y = length p + (length w + 1)} (omega arith)
      ∙ drop-append-add p (w ++ 46 ∷ b ∷ bs) (length w + 1)
      ∙ drop-append-add w (46 ∷ b ∷ bs) 1

fraction_good
    : (p w f : List ℕ) → Digits f → length f ≤ 6 → bad_fraction (p ++ (w ++ pointed f)) (length p + length w) ≡ false
fraction_good p w [] none h =
    first_fails _ _ (le-ltb (length p + length w) (length (p ++ (w ++ []))) (rw (length-append p (w ++ []), length-append w []) (omega arith)))
fraction_good p w (b ∷ bs) (more l k ds) h =
    last_fails (ltb (at_end p w b bs) (length (pointed_text p w b bs))) _
    (neither (not (eqb (get_or (pointed_text p w b bs) (at_end p w b bs) 0) 46)) _
    (ap not (eq-eqb (get_or (pointed_text p w b bs) (at_end p w b bs) 0) 46 (at_point p w b bs)))
    (neither (eqb (length (pointed_text p w b bs) - (at_end p w b bs + 1)) 0) _
    (ne_eqb (length (pointed_text p w b bs) - (at_end p w b bs + 1)) 0 (omega (arith, pointed_long p w b bs)))
    (neither (ltb 6 (length (pointed_text p w b bs) - (at_end p w b bs + 1))) _
    (le-ltb 6 (length (pointed_text p w b bs) - (at_end p w b bs + 1)) (omega (arith, pointed_long p w b bs)))
    (le-ltb (digits_end (pointed_text p w b bs) (at_end p w b bs + 1)) (length (pointed_text p w b bs))
    (omega (arith, pointed_long p w b bs, ap (span is_digit) (behind p w b bs), passed (b ∷ bs) (more l k ds)))))))

-- what the tests find
module _ (bytes : List ℕ) where
  sign_front : take (start_in bytes) bytes ≡ minus (negative_in bytes)
  sign_front = by bytes
    where
      at : (b : ℕ) (bs : List ℕ) (t : Bool) → eqb b 45 ≡ t → take (cond t 1 0) (b ∷ bs) ≡ minus t
      at b bs true e = ap (λ (x : ℕ). x ∷ []) (eqb-true b 45 e)
      at b bs false e = refl

      by : (bs : List ℕ) → take (start_in bs) bs ≡ minus (negative_in bs)
      by [] = refl
      by (b ∷ bs) = at b bs (eqb b 45) refl

-- a point where something follows the digits
pointed_some : (xs : List ℕ) → 0 < length xs → pointed xs ≡ 46 ∷ xs
pointed_some [] h = absurd (omega arith)
pointed_some (x ∷ xs) h = refl

module _ (bytes : List ℕ) (s : ℕ) where
  abbrev e : ℕ
  e = digits_end bytes s

  -- the digits from the start on
  pub cut : slice s e bytes ≡ take (span is_digit (drop s bytes)) (drop s bytes)
  cut = let size : e - s ≡ span is_digit (drop s bytes) = omega arith in sym (part s e bytes) ∙ ap (λ (k : ℕ). take k (drop s bytes)) size

  pub within : s ≤ length bytes → e ≤ length bytes
  within h = omega (arith, span_le is_digit (drop s bytes), length-drop s bytes)

  split_there : drop s bytes ≡ slice s e bytes ++ drop e bytes
  split_there =
      sym (take-append-drop (span is_digit (drop s bytes)) (drop s bytes))
      ∙ rw (cut, drop-drop (span is_digit (drop s bytes)) s bytes)

  module _ (good : bad_fraction bytes e ≡ false) where
    followed : drop e bytes ≡ pointed (drop (e + 1) bytes)
    followed = by (dec_lt e (length bytes))
      where
        by : Dec (e < length bytes) → drop e bytes ≡ pointed (drop (e + 1) bytes)
        by (yes l) =
            let tests = one_fails (ltb e (length bytes)) _ good (lt-ltb e (length bytes) l) in
            let point = eqb-true (get_or bytes e 0) 46 (not-false _ (both_fail (not (eqb (get_or bytes e 0) 46)) _ tests).0) in
            let some = eqb-false (length bytes - (e + 1)) 0 (both_fail (eqb (length bytes - (e + 1)) 0) _ (both_fail (not (eqb (get_or bytes e 0) 46)) _ tests).1).0 in
            drop-cons bytes e 0 l ∙ ap (λ (b : ℕ). b ∷ drop (suc e) bytes) point ∙ ap (λ (k : ℕ). 46 ∷ drop k bytes) (sym (add-one e))
            ∙ sym (pointed_some (drop (e + 1) bytes) (omega (arith, length-drop (e + 1) bytes, some)))
        by (no l) =
            rw (drop_of_length-le bytes {i = e} (omega arith), drop_of_length-le bytes {i = e + 1} (omega arith))

    pub fraction_few : length (drop (e + 1) bytes) ≤ 6
    fraction_few = by (dec_lt e (length bytes))
      where
        by : Dec (e < length bytes) → length (drop (e + 1) bytes) ≤ 6
        by (yes l) =
            let tests = one_fails (ltb e (length bytes)) _ good (lt-ltb e (length bytes) l) in
            let rest = (both_fail (eqb (length bytes - (e + 1)) 0) _ (both_fail (not (eqb (get_or bytes e 0) 46)) _ tests).1).1 in
            omega (arith, length-drop (e + 1) bytes, ltb-false 6 (length bytes - (e + 1)) (both_fail (ltb 6 (length bytes - (e + 1))) _ rest).0)
        by (no l) = omega (arith, length-drop (e + 1) bytes)

    pub fraction_digits : Digits (drop (e + 1) bytes)
    fraction_digits = by (dec_lt e (length bytes))
      where
        by : Dec (e < length bytes) → Digits (drop (e + 1) bytes)
        by (yes l) =
            let tests = one_fails (ltb e (length bytes)) _ good (lt-ltb e (length bytes) l) in
            let rest = (both_fail (eqb (length bytes - (e + 1)) 0) _ (both_fail (not (eqb (get_or bytes e 0) 46)) _ tests).1).1 in
            let all = ltb-false (digits_end bytes (e + 1)) (length bytes) (both_fail (ltb 6 (length bytes - (e + 1))) _ rest).1 in
            passed_digits (drop (e + 1) bytes) (omega (arith, all, length-drop (e + 1) bytes, span_le is_digit (drop (e + 1) bytes)))
        by (no l) = rw (drop_of_length-le bytes {i = e + 1} (omega arith)) none

  module _ (inside : s ≤ length bytes) (good : bad_whole bytes s e ≡ false) where
    some_digits : s < e
    some_digits = leb-false e s (both_fail (leb e s) _ good).0

    counted : length (slice s e bytes) ≡ e - s
    counted = length-slice s e bytes (within inside)

    pub whole_plain : get_or (slice s e bytes) 0 0 ≡ 48 → length (slice s e bytes) ≡ 1
    whole_plain h =
        let first : get_or bytes s 0 ≡ 48 = sym (ap (λ (xs : List ℕ). get_or xs 0 0) (slice-cons s e bytes 0 some_digits (within inside))) ∙ h in
        let short = ltb-false (s + 1) e (one_fails (eqb (get_or bytes s 0) 48) _ (both_fail (leb e s) _ good).1 (eq-eqb (get_or bytes s 0) 48 first)) in
        omega (arith, counted, short, some_digits)

-- the start is a place of the bytes, or behind them where there are none
pub start_inside : (bytes : List ℕ) → start_in bytes ≤ length bytes
start_inside [] = omega arith
start_inside (b ∷ bs) = by (eqb b 45)
  where
    by : (t : Bool) → cond t 1 0 ≤ suc (length bs)
    by true = omega arith
    by false = omega arith

pub start_one : (bytes : List ℕ) → start_in bytes ≤ 1
start_one bytes = by (negative_in bytes)
  where
    by : (t : Bool) → cond t 1 0 ≤ 1
    by true = omega arith
    by false = omega arith

-- no minus on zero
sign_good : (sign : Bool) (m : ℕ) → signed_zero sign m ≡ false → sign ≡ true → 0 < m
sign_good sign m good e = let some = eqb-false m 0 (one_fails sign (eqb m 0) good e) in omega (arith, some)

pub zero_good : (sign : Bool) (m : ℕ) → (sign ≡ true → 0 < m) → signed_zero sign m ≡ false
zero_good true m h = ne_eqb m 0 (omega (arith, h refl))
zero_good false m h = refl

-- THE LAW, one way: what passes the tests is in the grammar
pub well_formed
    : (bytes : List ℕ) → malformed bytes ≡ false
    → Text bytes (negative_in bytes) (slice (start_in bytes) (end_in bytes) bytes) (fraction_from bytes (end_in bytes))
unfolding bad_shape
well_formed bytes good =
    let s : ℕ = start_in bytes in
    let shape = both_fail (bad_shape bytes s (end_in bytes)) _ good in
    let two = both_fail (ltb 20 (length bytes)) _ shape.0 in
    let parts = both_fail (bad_whole bytes s (end_in bytes)) _ two.1 in
    record {
      spelled =
          sym (take-append-drop s bytes)
          ∙ ap (λ (xs : List ℕ). xs ++ drop s bytes) (sign_front bytes)
          ∙ ap (λ (xs : List ℕ). minus (negative_in bytes) ++ xs) (split_there bytes s)
          ∙ ap (λ (xs : List ℕ). minus (negative_in bytes) ++ (slice s (end_in bytes) bytes ++ xs)) (followed bytes s parts.1);
      digits = subst Digits (sym (cut bytes s)) (scanned (drop s bytes));
      some = omega (arith, counted bytes s (start_inside bytes) parts.0, some_digits bytes s (start_inside bytes) parts.0);
      places = fraction_digits bytes s parts.1;
      few = fraction_few bytes s parts.1;
      plain = whole_plain bytes s (start_inside bytes) parts.0;
      signed = sign_good (negative_in bytes) (number_at bytes s (end_in bytes)) shape.1;
      short = ltb-false 20 (length bytes) two.0;
    }

-- and the other: a text of the grammar passes them
pub not_malformed : (bytes : List ℕ) (n : Bool) (w f : List ℕ) → Text bytes n w f → malformed bytes ≡ false
unfolding bad_shape
not_malformed bytes n w f t =
    let p : List ℕ = minus n in
    let s = start_is bytes n w f t in
    let e = end_is bytes n w f t in
    let shape : bad_shape (p ++ (w ++ pointed f)) (length p) (length p + length w) ≡ false =
    neither (ltb 20 (length (p ++ (w ++ pointed f)))) _ (le-ltb 20 (length (p ++ (w ++ pointed f))) (rw t.spelled at t.short))
    (neither (bad_whole (p ++ (w ++ pointed f)) (length p) (length p + length w)) _
    (whole_good p w f t.digits t.some t.plain)
    (fraction_good p w f t.places t.few)) in
    neither (bad_shape bytes (start_in bytes) (end_in bytes)) _
    (ap (λ (k : ℕ). bad_shape bytes k (end_in bytes)) s ∙ ap (λ (k : ℕ). bad_shape bytes (length p) k) e
    ∙ ap (λ (bs : List ℕ). bad_shape bs (length p) (length p + length w)) t.spelled ∙ shape)
    (ap₂ signed_zero (sign_is bytes n w f t) (number_there bytes n w f t) ∙ zero_good n (number w f) t.signed)

pub accepted_exactly : (bytes : List ℕ) → (malformed bytes ≡ false) ↔ Accepted bytes
accepted_exactly bytes = (
  λ good. record { negative = negative_in bytes; whole = slice (start_in bytes) (end_in bytes) bytes; fraction = fraction_from bytes (end_in bytes); text = well_formed bytes good },
  λ a. not_malformed bytes a.negative a.whole a.fraction a.text,
)
