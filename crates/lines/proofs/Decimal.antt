-- The decimal digits of a number are digits, worth the number again, at least one and no more than its places, and the first is 0 for 0
-- alone. Assumes nothing.
use mathlib.Core.Path.{◌≡◌, refl, sym, ◌∙◌, ap}
use mathlib.Core.Bool.{Bool, true, false, cond, ◌&&◌}
use mathlib.Core.List.{List, [], ◌∷◌, ◌++◌}
use Prim.Native.Nat.{ℕ, zero, suc, ◌+◌, ◌-◌, ◌*◌, ◌/◌, ◌%◌, ◌^◌, ◌≤◌, ◌<◌}
use native.Mathlib.Nat.{pow-suc}
use native.Mathlib.Decide.{dec_lt}
use native.Mathlib.Omega.{arith}
use borrow.Author.Tests.{leb-true}
use lib.Dec.{leb}
use lib.ListN.{length, get_or, length-append, get_or-append}
use Rattle.lines.specs.Lines.{span, is_digit, worth}
use Rattle.lines.specs.Texts.{decimal}
use Rattle.lines.proofs.Scans.{digit}
use Rattle.lines.proofs.Fills.{one_digit, more_digits}

worth_last : (s : ℕ) (bs : List ℕ) (d : ℕ) → worth s (bs ++ (d ∷ [])) ≡ worth s bs * 10 + (d - 48)
unfolding worth
worth_last s [] d = refl
worth_last s (b ∷ bs) d = worth_last (s * 10 + (b - 48)) bs d

pub decimal_worth : (places n : ℕ) → n < 10 ^ places → worth 0 (decimal places n) ≡ n
unfolding worth decimal
decimal_worth zero n h = omega arith
decimal_worth (suc places) n h = by (dec_lt n 10) (decimal_worth places (n / 10))
  where
    by : Dec (n < 10) → (n / 10 < 10 ^ places → worth 0 (decimal places (n / 10)) ≡ n / 10) → worth 0 (decimal (suc places) n) ≡ n
    by (yes l) more = rw (one_digit places n l) (omega arith)
    by (no l) more =
        let e : worth 0 (decimal places (n / 10)) ≡ n / 10 = more (omega (arith, pow-suc 10 places)) in
        rw (more_digits places n (omega arith), worth_last, e) (omega arith)

-- a byte more that passes too
span_last
    : (passes : ℕ → Bool) (bs : List ℕ) (d : ℕ) → span passes bs ≡ length bs → passes d ≡ true
    → span passes (bs ++ (d ∷ [])) ≡ length (bs ++ (d ∷ []))
unfolding span
span_last passes [] d e p = rw p
span_last passes (b ∷ bs) d e p = by (passes b) e (λ h. span_last passes bs d h p)
  where
    by
        : (t : Bool) → cond t (suc (span passes bs)) 0 ≡ suc (length bs)
        → (span passes bs ≡ length bs → span passes (bs ++ (d ∷ [])) ≡ length (bs ++ (d ∷ [])))
        → cond t (suc (span passes (bs ++ (d ∷ [])))) 0 ≡ suc (length (bs ++ (d ∷ [])))
    by true e more = ap suc (more (omega arith))
    by false e more = absurd (omega arith)

pub decimal_digits : (places n : ℕ) → span is_digit (decimal places n) ≡ length (decimal places n)
unfolding span decimal
decimal_digits zero n = refl
decimal_digits (suc places) n = by (dec_lt n 10) (decimal_digits places (n / 10))
  where
    by
        : Dec (n < 10) → span is_digit (decimal places (n / 10)) ≡ length (decimal places (n / 10))
        → span is_digit (decimal (suc places) n) ≡ length (decimal (suc places) n)
    by (yes l) e = rw (one_digit places n l, digit (48 + n) (omega arith) (omega arith))
    by (no l) e =
        rw (more_digits places n (omega arith))
        (span_last is_digit (decimal places (n / 10)) (48 + n % 10) e (digit (48 + n % 10) (omega arith) (omega arith)))

pub decimal_some : (places n : ℕ) → 0 < length (decimal (suc places) n)
decimal_some places n = by (dec_lt n 10)
  where
    by : Dec (n < 10) → 0 < length (decimal (suc places) n)
    by (yes l) = rw (one_digit places n l) (omega arith)
    by (no l) = rw (more_digits places n (omega arith), length-append) (omega arith)

pub decimal_short : (places n : ℕ) → length (decimal places n) ≤ places
unfolding decimal
decimal_short zero n = omega arith
decimal_short (suc places) n = by (dec_lt n 10) (decimal_short places (n / 10))
  where
    by : Dec (n < 10) → length (decimal places (n / 10)) ≤ places → length (decimal (suc places) n) ≤ suc places
    by (yes l) h = rw (one_digit places n l) (omega arith)
    by (no l) h = rw (more_digits places n (omega arith), length-append) (omega arith)

pub decimal_first : (places n : ℕ) → n < 10 ^ places → get_or (decimal places n) 0 0 ≡ 48 → n ≡ 0
decimal_first zero n h e = omega arith
decimal_first (suc zero) n h e =
    let l : n < 10 = h in
    let f : get_or (decimal 1 n) 0 0 ≡ 48 + n = ap (λ (bs : List ℕ). get_or bs 0 0) (one_digit 0 n l) in
    omega arith
decimal_first (suc (suc places)) n h e = by (dec_lt n 10) (decimal_first (suc places) (n / 10))
  where
    by : Dec (n < 10) → (n / 10 < 10 ^ suc places → get_or (decimal (suc places) (n / 10)) 0 0 ≡ 48 → n / 10 ≡ 0) → n ≡ 0
    by (yes l) more =
        let f : get_or (decimal (suc (suc places)) n) 0 0 ≡ 48 + n = ap (λ (bs : List ℕ). get_or bs 0 0) (one_digit (suc places) n l) in
        omega arith
    by (no l) more =
        let f : get_or (decimal (suc (suc places)) n) 0 0 ≡ get_or (decimal (suc places) (n / 10)) 0 0 =
        ap (λ (bs : List ℕ). get_or bs 0 0) (more_digits (suc places) n (omega arith))
        ∙ get_or-append (decimal (suc places) (n / 10)) ((48 + n % 10) ∷ []) 0 0 (decimal_some places (n / 10)) in
        let z : n / 10 ≡ 0 = more (omega (arith, pow-suc 10 (suc places))) (sym f ∙ e) in
        absurd (omega arith)

-- a digit is past a minus
pub digit_least : (b : ℕ) → is_digit b ≡ true → 48 ≤ b
digit_least b e = leb-true 48 b (both (leb 48 b) (leb b 57) e)
  where
    both : (s t : Bool) → (s && t) ≡ true → s ≡ true
    both true t e = refl
    both false t e = e
