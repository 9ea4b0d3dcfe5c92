-- The text of a number is digits alone, but for a minus in front of one below 0; it has at most 21 bytes, and no zero in front but for 0
-- itself. Assumes nothing.
use mathlib.Core.Path.{◌≡◌, refl}
use mathlib.Core.Bool.{Bool, true, false, cond, ◌&&◌}
use mathlib.Core.List.{[], ◌∷◌}
use mathlib.Core.Logic.{◌⊎◌, inl, inr}
use Prim.Native.Nat.{ℕ, zero, suc, ◌≤◌, ◌<◌}
use native.Mathlib.Omega.{arith}
use borrow.Author.Tests.{lt-ltb}
use lib.Dec.{ltb}
use lib.ListN.{length, get_or}
use Rattle.lines.specs.Lines.{is_digit, most}
use Rattle.lines.specs.Texts.{decimal, text_of}
use Rattle.lines.proofs.Spans.{span_inside}
use Rattle.lines.proofs.Decimal.{decimal_digits, decimal_short, decimal_first}

pub text_length : (sign : Bool) (m : ℕ) → length (text_of sign m) ≤ 21
unfolding text_of
text_length sign m = by (sign && ltb 0 m)
  where
    by : (t : Bool) → length (cond t (45 ∷ decimal 20 m) (decimal 20 m)) ≤ 21
    by true = omega (arith, decimal_short 20 m)
    by false = omega (arith, decimal_short 20 m)

pub text_bytes
    : (sign : Bool) (m i : ℕ) → i < length (text_of sign m)
    → (is_digit (get_or (text_of sign m) i 0) ≡ true) ⊎ ((i ≡ 0) × (get_or (text_of sign m) i 0 ≡ 45))
unfolding text_of
text_bytes sign m i h = by (sign && ltb 0 m) i h
  where
    digits : (i : ℕ) → i < length (decimal 20 m) → is_digit (get_or (decimal 20 m) i 0) ≡ true
    digits i h = span_inside is_digit (decimal 20 m) i (omega (arith, decimal_digits 20 m))

    by
        : (t : Bool) (i : ℕ) → i < length (cond t (45 ∷ decimal 20 m) (decimal 20 m))
        → (is_digit (get_or (cond t (45 ∷ decimal 20 m) (decimal 20 m)) i 0) ≡ true) ⊎ ((i ≡ 0) × (get_or (cond t (45 ∷ decimal 20 m) (decimal 20 m)) i 0 ≡ 45))
    by true zero h = inr (refl, refl)
    by true (suc i) h = inl (digits i (omega arith))
    by false i h = inl (digits i h)

-- the minus stands in front of the digits alone, and 0 has none
pub text_zero : (sign : Bool) → text_of sign 0 ≡ 48 ∷ []
unfolding text_of decimal
text_zero true = refl
text_zero false = refl

pub text_minus : (m : ℕ) → 0 < m → text_of true m ≡ 45 ∷ text_of false m
unfolding text_of
text_minus m h = rw (lt-ltb 0 m h)

pub no_leading_zero : (m : ℕ) → m ≤ most → get_or (text_of false m) 0 0 ≡ 48 → m ≡ 0
unfolding text_of
no_leading_zero m h e = decimal_first 20 m (omega arith) e
