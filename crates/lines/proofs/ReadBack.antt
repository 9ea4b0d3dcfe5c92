-- Reading what was written gives the number, for every magnitude that a u64 holds; so two numbers with the same text are the same.
-- Assumes nothing.
use mathlib.Core.Path.{◌≡◌, sym, ◌∙◌, ap}
use mathlib.Core.Bool.{Bool, true, false, cond, ◌&&◌}
use mathlib.Core.List.{◌∷◌}
use Prim.Native.Nat.{ℕ, ◌≤◌}
use native.Mathlib.Omega.{arith}
use borrow.Author.Tests.{lt-ltb, eq-eqb, ne_eqb}
use lib.Dec.{ltb}
use lib.ListN.{length, get_or}
use Rattle.lines.specs.Lines.{number, whole, span, is_digit, most, whole_of, number_of}
use Rattle.lines.specs.declared.Number.{Number}
use Rattle.lines.specs.Texts.{decimal, text_of}
use Rattle.lines.proofs.Spans.{span_inside}
use Rattle.lines.proofs.Decimal.{decimal_worth, decimal_digits, decimal_some, digit_least}

digits_read : (sign : Bool) (m : ℕ) → m ≤ most → whole_of sign (decimal 20 m) ≡ whole sign m
digits_read sign m h =
    rw
    (lt-ltb 0 (length (decimal 20 m)) (decimal_some 19 m), eq-eqb (span is_digit (decimal 20 m)) (length (decimal 20 m)) (decimal_digits 20 m), decimal_worth 20 m (omega arith))
    (ap (whole sign) (omega arith))

pub reads_back : (sign : Bool) (m : ℕ) → m ≤ most → number_of (text_of sign m) ≡ whole (sign && ltb 0 m) m
unfolding number_of text_of
reads_back sign m h = by (sign && ltb 0 m)
  where
    first : is_digit (get_or (decimal 20 m) 0 0) ≡ true
    first = span_inside is_digit (decimal 20 m) 0 (omega (arith, decimal_digits 20 m, decimal_some 19 m))

    by : (t : Bool) → number_of (cond t (45 ∷ decimal 20 m) (decimal 20 m)) ≡ whole t m
    by true = digits_read true m h
    by false =
        rw (ne_eqb (get_or (decimal 20 m) 0 0) 45 (omega (arith, digit_least (get_or (decimal 20 m) 0 0) first)))
        (digits_read false m h)

pub same_text
    : (s t : Bool) (m n : ℕ) → m ≤ most → n ≤ most → text_of s m ≡ text_of t n
    → ((s && ltb 0 m) ≡ (t && ltb 0 n)) × (m ≡ n)
same_text s t m n h k e = ((apart (s && ltb 0 m) (t && ltb 0 n) same).0, (apart (s && ltb 0 m) (t && ltb 0 n) same).1)
  where
    same : whole (s && ltb 0 m) m ≡ whole (t && ltb 0 n) n
    same = sym (reads_back s m h) ∙ ap number_of e ∙ reads_back t n k

    apart : (a b : Bool) → whole a m ≡ whole b n → (a ≡ b) × (m ≡ n)
    apart a b e =
        let z : number a m ≡ number b n = cc in
        (ap (λ (x : Number). x.negative) z, ap (λ (x : Number). x.magnitude) z)
