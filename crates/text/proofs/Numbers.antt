-- What the reader answers to a text: of a bad shape, of a good one, and of a good one that is long, whose number is over L. Assumes nothing.
use mathlib.Core.Path.{◌≡◌, refl, sym, ◌∙◌, ap, subst}
use mathlib.Core.Bool.{Bool, true, false, cond, ◌&&◌, ◌||◌}
use mathlib.Core.List.{List, [], ◌∷◌}
use Prim.Native.Nat.{ℕ, ◌+◌, ◌-◌, ◌^◌, ◌≤◌, ◌<◌}
use native.Mathlib.Nat.{pow-le-pow_right, mul-le-mul_right}
use native.Mathlib.Omega.{arith}
use borrow.Author.Tests.{lt-ltb, le-ltb, ne_eqb}
use lib.Dec.{ltb, eqb}
use lib.ListN.{length, get_or, drop, length-drop}
use lib.Pow.{pow-add}
use lib.Seq.{slice, length-slice}
use Rattle.refusal.specs.declared.Refusal.TheVariants.{Unknown, Malformed, Limit}
use Rattle.refusal.specs.Rows.{gives, refuses, row, first_row}
use Rattle.lines.specs.Lines.{worth}
use Rattle.currency.specs.declared.Currency.{Currency}
use Rattle.currency.specs.Table.{unknown}
use Rattle.amount.specs.declared.Amount.{Amount}
use Rattle.amount.specs.Amounts.{largest, over_l}
use Rattle.text.specs.Grammar.{Digits}
use Rattle.text.specs.Read.{negative_in, start_in, digits_end, end_in, number_at, scale_at, bad_whole, bad_fraction, bad_shape, signed_zero, amount_in, read_said, made_said, Shaped}
use Rattle.text.specs.Scan.{most_short}
use Rattle.text.proofs.Digits.{number_is, scanned, leading}
use Rattle.text.proofs.Accepted.{both_fail, cut, within, fraction_few, fraction_digits, whole_plain, start_inside, start_one}

module _ (bytes : List ℕ) (start end : ℕ) (shaped : Shaped bytes start end) where
  abbrev whole : List ℕ
  whole = slice start end bytes

  abbrev fraction : List ℕ
  fraction = drop (end + 1) bytes

  good : (bad_whole bytes start end ≡ false) × (bad_fraction bytes end ≡ false)
  unfolding bad_shape
  good = both_fail (bad_whole bytes start end) _ (both_fail (ltb 20 (length bytes)) _ shaped.good).1

  good_fraction : bad_fraction bytes (digits_end bytes start) ≡ false
  good_fraction = ap (bad_fraction bytes) (sym shaped.ends) ∙ good.1

  inside : end ≤ length bytes
  inside = omega (arith, shaped.ends, within bytes start (omega (arith, shaped.starts, start_inside bytes)))

  whole_digits : Digits whole
  whole_digits = subst (λ (k : ℕ). Digits (slice start k bytes)) (sym shaped.ends) (subst Digits (sym (cut bytes start)) (scanned (drop start bytes)))

  places_digits : Digits fraction
  places_digits = subst (λ (k : ℕ). Digits (drop (k + 1) bytes)) (sym shaped.ends) (fraction_digits bytes start good_fraction)

  few_places : length fraction ≤ 6
  few_places = subst (λ (k : ℕ). length (drop (k + 1) bytes) ≤ 6) (sym shaped.ends) (fraction_few bytes start good_fraction)

  pub few_there : scale_at (length bytes) end ≤ 6
  few_there = omega (arith, few_places, length-drop (end + 1) bytes)

  -- THE LAW of long texts: of 18 characters and more, at most a minus and a point are no digits, and no 0 stands in front
  pub long_over : most_short < length bytes → largest < number_at bytes start end
  long_over long =
      let start_few : start ≤ 1 = omega (arith, shaped.starts, start_one bytes) in
      let first : start ≤ length bytes = omega arith in
      let digits : length whole ≡ end - start = length-slice start end bytes inside in
      let places : length fraction ≡ length bytes - (end + 1) = length-drop (end + 1) bytes in
      let plain = subst (λ (k : ℕ). get_or (slice start k bytes) 0 0 ≡ 48 → length (slice start k bytes) ≡ 1) (sym shaped.ends)
      (whole_plain bytes start first (ap (bad_whole bytes start) (sym shaped.ends) ∙ good.0)) in
      let many : 16 ≤ length whole + length fraction = omega (arith, digits, places, few_places, inside, start_few) in
      let least : 10 ^ (length whole - 1) ≤ worth 0 whole = leading whole whole_digits plain (omega (arith, many, few_places)) in
      let power : 10 ^ 15 ≤ 10 ^ (length whole - 1 + length fraction) =
      pow-le-pow_right (omega arith) {i = 15} {j = length whole - 1 + length fraction} (omega (arith, many, few_places)) in
      omega (
        arith,
        number_is whole fraction,
        mul-le-mul_right (10 ^ length fraction) least,
        power,
        pow-add 10 (length whole - 1) (length fraction),
      )

-- over L, whatever the sign
limited
    : (s z l : Bool) (a : Amount) → z ≡ false → l ≡ true → first_row (row Malformed (s && z) ∷ row Limit l ∷ []) (gives a) ≡ refuses 13 0
limited true z l a e f = rw (e, f)
limited false z l a e f = rw f

module _ (currency : Currency) (negative : Bool) (scale m : ℕ) where
  pub over_said : largest < m → made_said currency negative scale m ≡ refuses 13 0
  unfolding made_said
  over_said h = limited negative (eqb m 0) (over_l m) (amount_in currency negative scale m) (ne_eqb m 0 (omega arith)) (lt-ltb largest m h)

  pub made_said_lem : m ≤ largest → signed_zero negative m ≡ false → made_said currency negative scale m ≡ gives (amount_in currency negative scale m)
  unfolding made_said
  made_said_lem h e = rw (e, le-ltb largest m h)

-- the answer is the call's where its currency is known
pub shaped_said
    : (currency : Currency) (bytes : List ℕ) (start end : ℕ) → unknown currency ≡ false → Shaped bytes start end
    → made_said currency (ltb 0 start) (scale_at (length bytes) end) (number_at bytes start end) ≡ read_said currency bytes
unfolding made_said read_said
shaped_said currency bytes start end known shaped =
    let last : end ≡ end_in bytes = shaped.ends ∙ ap (digits_end bytes) shaped.starts in
    ap (λ (k : ℕ). made_said currency (ltb 0 k) (scale_at (length bytes) end) (number_at bytes k end)) shaped.starts
    ∙ ap (λ (k : ℕ). made_said currency (ltb 0 (start_in bytes)) (scale_at (length bytes) k) (number_at bytes (start_in bytes) k)) last
    ∙ ap (λ (s : Bool). made_said currency s (scale_at (length bytes) (end_in bytes)) (number_at bytes (start_in bytes) (end_in bytes))) (sign (negative_in bytes))
    ∙ behind (unknown currency) (bad_shape bytes (start_in bytes) (end_in bytes)) known
    (ap (λ (k : ℕ). bad_shape bytes k (end_in bytes)) (sym shaped.starts) ∙ ap (bad_shape bytes start) (sym last) ∙ shaped.good)
  where
    sign : (s : Bool) → ltb 0 (cond s 1 0) ≡ s
    sign true = refl
    sign false = refl

    behind
        : (u b : Bool) → u ≡ false → b ≡ false
        → made_said currency (negative_in bytes) (scale_at (length bytes) (end_in bytes)) (number_at bytes (start_in bytes) (end_in bytes))
        ≡ first_row (row Unknown u ∷ row Malformed (b || signed_zero (negative_in bytes) (number_at bytes (start_in bytes) (end_in bytes))) ∷ row Limit (over_l (number_at bytes (start_in bytes) (end_in bytes))) ∷ [])
        (gives (amount_in currency (negative_in bytes) (scale_at (length bytes) (end_in bytes)) (number_at bytes (start_in bytes) (end_in bytes))))
    behind u b e f = rw (e, f)

pub unknown_said : (currency : Currency) (bytes : List ℕ) → unknown currency ≡ true → read_said currency bytes ≡ refuses 4 0
unfolding read_said
unknown_said currency bytes e = rw e

pub malformed_said
    : (currency : Currency) (bytes : List ℕ) (start end : ℕ) → unknown currency ≡ false → start ≡ start_in bytes → end ≡ digits_end bytes start
    → bad_shape bytes start end ≡ true → read_said currency bytes ≡ refuses 14 0
unfolding read_said
malformed_said currency bytes start end known starts ends bad =
    let last : end ≡ end_in bytes = ends ∙ ap (digits_end bytes) starts in
    let shape : bad_shape bytes (start_in bytes) (end_in bytes) ≡ true =
    ap (λ (k : ℕ). bad_shape bytes k (end_in bytes)) (sym starts) ∙ ap (bad_shape bytes start) (sym last) ∙ bad in
    rw (known, shape)
