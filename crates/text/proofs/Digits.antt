-- Digits and the number they make: so many digits make a number below that power of ten; as many digits that make the same number are the same
-- digits; and without a 0 in front the number tells how many they are. Assumes nothing.
use mathlib.Core.Path.{◌≡◌, refl, sym, ◌∙◌, ap, ap₂}
use mathlib.Core.Bool.{Bool, true, false, cond, ◌&&◌}
use mathlib.Core.List.{List, [], ◌∷◌, ◌++◌}
use Prim.Native.Nat.{ℕ, suc, ◌+◌, ◌-◌, ◌*◌, ◌^◌, ◌≤◌, ◌<◌}
use native.Mathlib.Nat.{pow-suc, pow-le-pow_right, mul-le-mul_right}
use native.Mathlib.Decide.{dec_lt}
use native.Mathlib.Omega.{arith}
use borrow.Author.Tests.{leb-true}
use lib.Dec.{leb}
use lib.ListN.{length, get_or, take}
use Rattle.lines.specs.Lines.{span, is_digit, worth}
use Rattle.lines.proofs.Scans.{digit}
use Rattle.text.specs.Grammar.{Digits, none, more}

-- more digits behind a number
pub worth_join : (s : ℕ) (bs cs : List ℕ) → worth s (bs ++ cs) ≡ worth (worth s bs) cs
unfolding worth
worth_join s [] cs = refl
worth_join s (b ∷ bs) cs = worth_join (s * 10 + (b - 48)) bs cs

regroup : (s d x r : ℕ) → (s * 10 + d) * x + r ≡ s * (x * 10) + ((0 * 10 + d) * x + r)
regroup s d x r = omega arith

pub worth_from : (s : ℕ) (bs : List ℕ) → worth s bs ≡ s * 10 ^ length bs + worth 0 bs
unfolding worth
worth_from s [] = omega arith
worth_from s (b ∷ bs) = by (b - 48) (λ t. worth_from t bs)
  where
    by : (d : ℕ) → ((t : ℕ) → worth t bs ≡ t * 10 ^ length bs + worth 0 bs) → worth (s * 10 + d) bs ≡ s * 10 ^ suc (length bs) + worth (0 * 10 + d) bs
    by d from =
        let here : worth (s * 10 + d) bs ≡ (s * 10 + d) * 10 ^ length bs + worth 0 bs = from (s * 10 + d) in
        let there : worth (0 * 10 + d) bs ≡ (0 * 10 + d) * 10 ^ length bs + worth 0 bs = from (0 * 10 + d) in
        here ∙ regroup s d (10 ^ length bs) (worth 0 bs) ∙ ap (λ (x : ℕ). s * x + ((0 * 10 + d) * 10 ^ length bs + worth 0 bs)) (sym (pow-suc 10 (length bs)))
        ∙ ap (λ (x : ℕ). s * 10 ^ suc (length bs) + x) (sym there)

-- the digits before the point count as many powers of ten as there are behind it
pub number_is : (w f : List ℕ) → worth 0 (w ++ f) ≡ worth 0 w * 10 ^ length f + worth 0 f
number_is w f = worth_join 0 w f ∙ worth_from (worth 0 w) f

-- the first digit
pub first_digit : (b : ℕ) (bs : List ℕ) → worth 0 (b ∷ bs) ≡ (b - 48) * 10 ^ length bs + worth 0 bs
unfolding worth
first_digit b bs = by (b - 48)
  where
    by : (d : ℕ) → worth (0 * 10 + d) bs ≡ d * 10 ^ length bs + worth 0 bs
    by d = worth_from (0 * 10 + d) bs ∙ omega arith

pub below : (bs : List ℕ) → Digits bs → worth 0 bs < 10 ^ length bs
unfolding worth
below [] none = omega arith
below (b ∷ bs) (more l h ds) = by (b - 48) (omega arith) (first_digit b bs) (below bs ds)
  where
    by : (d : ℕ) → d ≤ 9 → worth 0 (b ∷ bs) ≡ d * 10 ^ length bs + worth 0 bs → worth 0 bs < 10 ^ length bs → worth 0 (b ∷ bs) < 10 ^ suc (length bs)
    by d few e under = omega (arith, mul-le-mul_right (10 ^ length bs) few, pow-suc 10 (length bs))

-- a quotient and a rest below the divisor are the only ones
not_less : (x d e r s : ℕ) → r < x → d * x + r ≡ e * x + s → d < e → ⊥
not_less x d e r s h same less = omega (arith, mul-le-mul_right {m = d + 1} {n = e} x (omega arith))

pub apart : (x d e r s : ℕ) → r < x → s < x → d * x + r ≡ e * x + s → (d ≡ e) × (r ≡ s)
apart x d e r s h k same = by (dec_lt d e) (dec_lt e d)
  where
    by : Dec (d < e) → Dec (e < d) → (d ≡ e) × (r ≡ s)
    by (yes l) g = absurd (not_less x d e r s h same l)
    by (no l) (yes g) = absurd (not_less x e d s r k (sym same) g)
    by (no l) (no g) = let equal : d ≡ e = omega arith in (equal, omega (arith, ap (λ (n : ℕ). n * x) equal))

pub same_digits : (bs cs : List ℕ) → Digits bs → Digits cs → length bs ≡ length cs → worth 0 bs ≡ worth 0 cs → bs ≡ cs
same_digits [] [] none none e same = refl
same_digits [] (c ∷ cs) none (more l h ds) e same = absurd (omega arith)
same_digits (b ∷ bs) [] (more l h ds) none e same = absurd (omega arith)
same_digits (b ∷ bs) (c ∷ cs) (more l h ds) (more m k es) e same = by (omega arith) (same_digits bs cs ds es)
  where
    by : length bs ≡ length cs → (length bs ≡ length cs → worth 0 bs ≡ worth 0 cs → bs ≡ cs) → b ∷ bs ≡ c ∷ cs
    by long rest =
        let x : ℕ = 10 ^ length bs in
        let other : (c - 48) * 10 ^ length cs ≡ (c - 48) * 10 ^ length bs = ap (λ (n : ℕ). (c - 48) * 10 ^ n) (sym long) in
        let both : (b - 48) * 10 ^ length bs + worth 0 bs ≡ (c - 48) * 10 ^ length bs + worth 0 cs =
        sym (first_digit b bs) ∙ same ∙ first_digit c cs ∙ ap (λ (n : ℕ). n + worth 0 cs) other in
        let under : worth 0 cs < 10 ^ length bs = rw long (below cs es) in
        let p = apart (10 ^ length bs) (b - 48) (c - 48) (worth 0 bs) (worth 0 cs) (below bs ds) under both in
        ap₂ (λ (x : ℕ) (xs : List ℕ). x ∷ xs) (omega (arith, p.0)) (rest long p.1)

-- without a 0 in front, one digit fewer is too few
pub leading : (bs : List ℕ) → Digits bs → (get_or bs 0 0 ≡ 48 → length bs ≡ 1) → 1 < length bs → 10 ^ (length bs - 1) ≤ worth 0 bs
leading [] none plain h = absurd (omega arith)
leading (b ∷ bs) (more l k ds) plain h = by (b - 48) (omega arith) (first_digit b bs)
  where
    some : (b ≡ 48 → suc (length bs) ≡ 1) → b ≡ 48 → ⊥
    some p e = omega (arith, p e)

    by : (d : ℕ) → d ≡ b - 48 → worth 0 (b ∷ bs) ≡ d * 10 ^ length bs + worth 0 bs → 10 ^ (suc (length bs) - 1) ≤ worth 0 (b ∷ bs)
    by d is e =
        let n : suc (length bs) - 1 ≡ length bs = omega arith in
        let one : 1 ≤ d = omega (arith, some plain) in
        rw n (omega (arith, mul-le-mul_right (10 ^ length bs) one))

not_shorter
    : (bs cs : List ℕ) → Digits bs → Digits cs → 0 < length bs → (get_or cs 0 0 ≡ 48 → length cs ≡ 1) → worth 0 bs ≡ worth 0 cs
    → length bs < length cs → ⊥
not_shorter bs cs ds es some plain same less =
    let least : 10 ^ (length cs - 1) ≤ worth 0 cs = leading cs es plain (omega arith) in
    let power : 10 ^ length bs ≤ 10 ^ (length cs - 1) = pow-le-pow_right (omega arith) (omega arith) in
    omega (arith, below bs ds, least, power, same)

-- THE LAW of leading zeros: the number tells the digits
pub same_plain
    : (bs cs : List ℕ) → Digits bs → Digits cs → 0 < length bs → 0 < length cs → (get_or bs 0 0 ≡ 48 → length bs ≡ 1)
    → (get_or cs 0 0 ≡ 48 → length cs ≡ 1) → worth 0 bs ≡ worth 0 cs → bs ≡ cs
same_plain bs cs ds es some any plain bare same = by (dec_lt (length bs) (length cs)) (dec_lt (length cs) (length bs))
  where
    by : Dec (length bs < length cs) → Dec (length cs < length bs) → bs ≡ cs
    by (yes l) g = absurd (not_shorter bs cs ds es some bare same l)
    by (no l) (yes g) = absurd (not_shorter cs bs es ds any plain (sym same) g)
    by (no l) (no g) = same_digits bs cs ds es (omega arith) same

-- digits as the scan sees them
pub all_passed : (bs : List ℕ) → Digits bs → (cs : List ℕ) → span is_digit (bs ++ cs) ≡ length bs + span is_digit cs
unfolding span
all_passed [] none cs = omega arith
all_passed (b ∷ bs) (more l h ds) cs = rw (digit b l h) (omega (arith, all_passed bs ds cs))

pub passed : (bs : List ℕ) → Digits bs → span is_digit bs ≡ length bs
unfolding span
passed [] none = refl
passed (b ∷ bs) (more l h ds) = rw (digit b l h) (ap suc (passed bs ds))

digit_most : (b : ℕ) → is_digit b ≡ true → (48 ≤ b) × (b ≤ 57)
digit_most b e = both (leb 48 b) (leb b 57) e (leb-true 48 b) (leb-true b 57)
  where
    both : (s t : Bool) → (s && t) ≡ true → (s ≡ true → 48 ≤ b) → (t ≡ true → b ≤ 57) → (48 ≤ b) × (b ≤ 57)
    both true t e p q = (p refl, q e)
    both false t e p q = let z : ◌≡◌ {A = ℕ} 0 1 = cc in absurd (omega arith)

pub scanned : (bs : List ℕ) → Digits (take (span is_digit bs) bs)
unfolding span
scanned [] = none
scanned (b ∷ bs) = by (is_digit b) refl (scanned bs)
  where
    by : (t : Bool) → is_digit b ≡ t → Digits (take (span is_digit bs) bs) → Digits (take (cond t (suc (span is_digit bs)) 0) (b ∷ bs))
    by true e ds = more (digit_most b e).0 (digit_most b e).1 ds
    by false e ds = none
