-- The text of an amount is in the grammar: its whole units have no 0 in front but a single one, as many digits as the scale stand behind the point, together
-- they make the coefficient's magnitude, and with L below 10^15 it has at most 17 bytes. Assumes nothing.
use mathlib.Core.Path.{◌≡◌, refl, sym, ◌∙◌, ap, subst}
use mathlib.Core.Bool.{Bool, true, false}
use mathlib.Core.List.{List, [], ◌∷◌, ◌++◌}
use Prim.Native.Nat.{ℕ, zero, suc, ◌+◌, ◌-◌, ◌*◌, ◌/◌, ◌%◌, ◌^◌, ◌≤◌, ◌<◌}
use native.Mathlib.Nat.{add-zero, add-suc, pow-suc, pow-succ', one-le-pow, div-one, div-div-eq-div-mul, div-lt_iff_lt-mul, div-le_self}
use native.Mathlib.Decide.{dec_lt}
use native.Mathlib.Omega.{arith}
use lib.ListN.{length, get_or, take, length-append}
use lib.Seq.{take-length}
use Rattle.lines.specs.Lines.{span, is_digit, worth}
use Rattle.lines.specs.Texts.{decimal}
use Rattle.lines.proofs.Fills.{one_digit, more_digits}
use Rattle.lines.proofs.Decimal.{decimal_worth, decimal_digits, decimal_some, decimal_first}
use Rattle.amount.specs.Amounts.{largest}
use Rattle.text.specs.Grammar.{Digits, none, more, minus, pointed, number, Text}
use Rattle.text.specs.Written.{last_digits, spelled}
use Rattle.text.proofs.Digits.{worth_join, scanned}

-- L is below 10^15
pub largest_below : largest < 10 ^ 15
largest_below = omega arith

-- the last digits of a number
digits_last : (bs : List ℕ) → Digits bs → (b : ℕ) → 48 ≤ b → b ≤ 57 → Digits (bs ++ (b ∷ []))
digits_last [] none b l h = more l h none
digits_last (c ∷ cs) (more m k ds) b l h = more m k (digits_last cs ds b l h)

pub last_digits_lem : (count n : ℕ) → Digits (last_digits count n)
unfolding last_digits
last_digits_lem zero n = none
last_digits_lem (suc count) n = digits_last (last_digits count (n / 10)) (last_digits_lem count (n / 10)) (48 + n % 10) (omega arith) (omega arith)

pub last_length : (count n : ℕ) → length (last_digits count n) ≡ count
unfolding last_digits
last_length zero n = refl
last_length (suc count) n = length-append (last_digits count (n / 10)) ((48 + n % 10) ∷ []) ∙ omega (arith, last_length count (n / 10))

-- behind the number of the digits before them they make the whole number
pub last_worth : (count n : ℕ) → worth (n / 10 ^ count) (last_digits count n) ≡ n
unfolding last_digits worth
last_worth zero n = div-one n
last_worth (suc count) n =
    let quotient : n / 10 ^ suc count ≡ n / 10 / 10 ^ count = ap (λ (k : ℕ). n / k) (pow-succ' 10 count) ∙ sym (div-div-eq-div-mul n 10 (10 ^ count)) in
    worth_join (n / 10 ^ suc count) (last_digits count (n / 10)) ((48 + n % 10) ∷ [])
    ∙ ap (λ (k : ℕ). worth k (last_digits count (n / 10)) * 10 + (48 + n % 10 - 48)) quotient
    ∙ ap (λ (k : ℕ). k * 10 + (48 + n % 10 - 48)) (last_worth count (n / 10))
    ∙ omega arith

-- decimal digits are digits, and no more than the power of ten above the number says
pub passed_digits : (bs : List ℕ) → span is_digit bs ≡ length bs → Digits bs
passed_digits bs e = subst Digits (ap (λ (n : ℕ). take n bs) e ∙ take-length bs) (scanned bs)

pub decimal_length : (places k n : ℕ) → n < 10 ^ suc k → length (decimal places n) ≤ suc k
unfolding decimal
decimal_length zero k n h = omega arith
decimal_length (suc places) zero n h = rw (one_digit places n h) (omega arith)
decimal_length (suc places) (suc k) n h = by (dec_lt n 10) (decimal_length places k (n / 10))
  where
    by : Dec (n < 10) → (n / 10 < 10 ^ suc k → length (decimal places (n / 10)) ≤ suc k) → length (decimal (suc places) n) ≤ suc (suc k)
    by (yes l) rest = rw (one_digit places n l) (omega arith)
    by (no l) rest = rw (more_digits places n (omega arith), length-append) (omega (arith, rest (omega (arith, pow-suc 10 (suc k)))))

pub pow_sum : (a b : ℕ) → 10 ^ (a + b) ≡ 10 ^ a * 10 ^ b
pow_sum a zero = rw (add-zero a) (omega arith)
pow_sum a (suc b) =
    rw (add-suc a b)
    (omega (arith, pow-suc 10 (a + b), ap (λ (x : ℕ). 10 ^ a * x) (pow-suc 10 b), pow_sum a b))

-- how many digits behind a point
pub pointed_length : (f : List ℕ) → length (pointed f) ≤ suc (length f)
pointed_length [] = omega arith
pointed_length (b ∷ bs) = omega arith

pub minus_length : (sign : Bool) → length (minus sign) ≤ 1
minus_length true = omega arith
minus_length false = omega arith

module _ (m scale : ℕ) (few : scale ≤ 6) (small : m < 10 ^ 15) where
  units : m / 10 ^ scale < 10 ^ suc (14 - scale)
  units =
      let sum : suc (14 - scale) + scale ≡ 15 = omega arith in
      let power : 10 ^ suc (14 - scale) * 10 ^ scale ≡ 10 ^ 15 = sym (pow_sum (suc (14 - scale)) scale) ∙ ap (λ (k : ℕ). 10 ^ k) sum in
      (div-lt_iff_lt-mul (one-le-pow scale 10 (omega arith))).1 (omega (arith, power))

  pub text_length : (sign : Bool) → length (spelled sign m scale) ≤ 17
  unfolding spelled
  text_length sign =
      rw (length-append (minus sign), length-append (decimal 20 (m / 10 ^ scale)))
      (omega (arith, minus_length sign, decimal_length 20 (14 - scale) (m / 10 ^ scale) units, pointed_length (last_digits scale m), last_length scale m))

  -- they make the number
  pub makes : number (decimal 20 (m / 10 ^ scale)) (last_digits scale m) ≡ m
  makes =
      worth_join 0 (decimal 20 (m / 10 ^ scale)) (last_digits scale m)
      ∙ ap (λ (k : ℕ). worth k (last_digits scale m)) (decimal_worth 20 (m / 10 ^ scale) (omega (arith, div-le_self m (10 ^ scale))))
      ∙ last_worth scale m

  plain : get_or (decimal 20 (m / 10 ^ scale)) 0 0 ≡ 48 → length (decimal 20 (m / 10 ^ scale)) ≡ 1
  plain e =
      let none : m / 10 ^ scale ≡ 0 = decimal_first 20 (m / 10 ^ scale) (omega (arith, div-le_self m (10 ^ scale))) e in
      ap length (one_digit 19 (m / 10 ^ scale) (omega arith))

  -- THE LAW: the text is in the grammar
  pub in_grammar : (sign : Bool) → (sign ≡ true → 0 < m) → Text (spelled sign m scale) sign (decimal 20 (m / 10 ^ scale)) (last_digits scale m)
  unfolding spelled
  in_grammar sign some = record {
    spelled = refl;
    digits = passed_digits (decimal 20 (m / 10 ^ scale)) (decimal_digits 20 (m / 10 ^ scale));
    some = decimal_some 19 (m / 10 ^ scale);
    places = last_digits_lem scale m;
    few = omega (arith, last_length scale m);
    plain = plain;
    signed = λ e. rw makes (some e);
    short = omega (arith, text_length sign);
  }
