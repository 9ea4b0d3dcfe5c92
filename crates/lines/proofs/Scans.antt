-- A number read digit by digit: each digit brings the sum of the digits before it to the sum with it, kept at the largest that a u64
-- holds once it would pass that, and what is kept there stays there. A byte that is no digit ends the reading with nothing.
-- Assumes nothing.
use mathlib.Core.Path.{◌≡◌, refl, ap}
use mathlib.Core.Bool.{Bool, true, false, cond, ◌&&◌}
use mathlib.Core.List.{List, [], ◌∷◌}
use mathlib.Core.Logic.{◌⊎◌, inl, inr}
use Prim.Native.Nat.{ℕ, zero, suc, ◌+◌, ◌-◌, ◌*◌, ◌≤◌, ◌<◌, min}
use native.Mathlib.Nat.{sub-zero, zero-sub, suc-sub-suc}
use native.Mathlib.Decide.{dec_le}
use native.Mathlib.Numerals.{add-one}
use native.Mathlib.Omega.{arith}
use borrow.Author.Tests.{lt-ltb, le-leb, lt-leb, eq-eqb, ne_eqb}
use lib.Dec.{leb, eqb, eqb-suc-suc, eqb-zero-suc}
use lib.ListN.{length, get_or, take, drop, drop_of_length-le}
use lib.Seq.{drop-cons, take-nil, slice}
use Rattle.lines.specs.Lines.{digit_in, whole, span, is_digit, worth, most, whole_of, number_of}
use Rattle.lines.specs.Reads.{number_at}
use Rattle.lines.specs.declared.Word.{Word}
use Rattle.lines.specs.declared.Number.{Number}
use Rattle.std.specs.Prelude.{Option, Some, None}

worth_least : (s : ℕ) (bs : List ℕ) → s ≤ worth s bs
unfolding worth
worth_least s [] = omega arith
worth_least s (b ∷ bs) = omega (arith, worth_least (s * 10 + (b - 48)) bs)

-- a sum that was kept at the top gives what the whole sum gives
topped : (s : ℕ) (bs : List ℕ) → min (worth (min s most) bs) most ≡ min (worth s bs) most
topped s bs = at (dec_le s most)
  where
    at : Dec (s ≤ most) → min (worth (min s most) bs) most ≡ min (worth s bs) most
    at (yes h) = let e : min s most ≡ s = omega arith in rw e
    at (no h) =
        let e : min s most ≡ most = omega arith in
        rw e (omega (arith, worth_least s bs, worth_least most bs))

-- what the digits that are left give, after those whose sum is known
abbrev pub scanned : Bool → ℕ → List ℕ → Option Number
scanned sign sum bs = cond (eqb (span is_digit bs) (length bs)) (whole sign (min (worth sum bs) most)) None

pub digit : (b : ℕ) → 48 ≤ b → b ≤ 57 → is_digit b ≡ true
digit b l h = rw (le-leb 48 b l, le-leb b 57 h)

pub below_digits : (b : ℕ) → b < 48 → is_digit b ≡ false
below_digits b h = rw (lt-leb 48 b h)

pub above_digits : (b : ℕ) → 57 < b → is_digit b ≡ false
above_digits b h = rw (le-leb 48 b (omega arith), lt-leb b 57 h)

stops : (sign : Bool) (sum b : ℕ) (bs : List ℕ) → is_digit b ≡ false → scanned sign sum (b ∷ bs) ≡ None
unfolding span
stops sign sum b bs e = rw (e, eqb-zero-suc (length bs))

goes_on
    : (sign : Bool) (sum b : ℕ) (bs : List ℕ) → is_digit b ≡ true
    → scanned sign sum (b ∷ bs) ≡ scanned sign (min (sum * 10 + (b - 48)) most) bs
unfolding span worth
goes_on sign sum b bs e = rw (e, eqb-suc-suc (span is_digit bs) (length bs), topped (sum * 10 + (b - 48)) bs)

-- what `digit_in` says of a byte
no_digit : (t : Bool) (n : ℕ) → cond t (Some n) None ≡ None → t ≡ false
no_digit true n e = absurd (let z : ◌≡◌ {A = ℕ} 0 1 = cc in omega arith)
no_digit false n e = refl

a_digit : (t : Bool) (n d : ℕ) → cond t (Some n) None ≡ Some d → (t ≡ true) × (n ≡ d)
a_digit true n d e = (refl, cc)
a_digit false n d e = absurd (let z : ◌≡◌ {A = ℕ} 0 1 = cc in omega arith)

pub reading : (sign : Bool) (bs : List ℕ) → 0 < length bs → whole_of sign bs ≡ scanned sign 0 bs
reading sign bs h = rw (lt-ltb 0 (length bs) h)

-- the same over the bytes from a place on
module _ (sign : Bool) (bs : List ℕ) (i : ℕ) where
  pub bad : (sum : ℕ) → i < length bs → digit_in (get_or bs i 0) ≡ None → scanned sign sum (drop i bs) ≡ None
  bad sum h e = rw (drop-cons bs i 0 h) (stops sign sum (get_or bs i 0) (drop (suc i) bs) (no_digit (is_digit (get_or bs i 0)) (get_or bs i 0 - 48) e))

  pub good
      : (sum d : ℕ) → i < length bs → digit_in (get_or bs i 0) ≡ Some d
      → scanned sign sum (drop i bs) ≡ scanned sign (min (sum * 10 + d) most) (drop (i + 1) bs)
  good sum d h e =
      let is = a_digit (is_digit (get_or bs i 0)) (get_or bs i 0 - 48) d e in
      rw (drop-cons bs i 0 h, add-one, ← is.1) (goes_on sign sum (get_or bs i 0) (drop (suc i) bs) is.0)

  pub done : (sum : ℕ) → sum ≤ most → length bs ≤ i → scanned sign sum (drop i bs) ≡ whole sign sum
  unfolding span worth
  done sum h l = rw (drop_of_length-le bs l) (ap (whole sign) (omega arith))

-- the bytes of a word
pub part : {A : Type 0} (from to : ℕ) (bs : List A) → take (to - from) (drop from bs) ≡ slice from to bs
part zero to bs = rw (sub-zero to)
part (suc from) zero bs = rw (zero-sub (suc from))
part (suc from) (suc to) [] = take-nil (suc to - suc from)
part (suc from) (suc to) (b ∷ bs) = rw (suc-sub-suc to from) (part from to bs)

module _ (line : List ℕ) (word : Word) where
  pub outside : (word.end < word.start) ⊎ (length line < word.end) → number_at line word ≡ None
  unfolding number_at
  outside (inl h) = rw (lt-leb word.start word.end h)
  outside (inr h) = rw (lt-leb word.end (length line) h) (never (leb word.start word.end))
    where
      never : (t : Bool) → cond (t && false) (number_of (take (word.end - word.start) (drop word.start line))) None ≡ None
      never true = refl
      never false = refl

  pub inside : word.start ≤ word.end → word.end ≤ length line → number_at line word ≡ number_of (take (word.end - word.start) (drop word.start line))
  unfolding number_at
  inside h l = rw (le-leb word.start word.end h, le-leb word.end (length line) l)

pub none_there : (bs : List ℕ) → length bs ≡ 0 → number_of bs ≡ None
unfolding number_of span worth
none_there [] e = refl
none_there (b ∷ bs) e = absurd (omega arith)

pub with_minus : (bs : List ℕ) (b : ℕ) (rest : List ℕ) → bs ≡ b ∷ rest → b ≡ 45 → number_of bs ≡ whole_of true rest
unfolding number_of
with_minus bs b rest e h = rw (e, eq-eqb b 45 h)

pub with_none : (bs : List ℕ) (b : ℕ) (rest : List ℕ) → bs ≡ b ∷ rest → (b ≡ 45 → ⊥) → number_of bs ≡ whole_of false bs
unfolding number_of
with_none bs b rest e h = rw (e, ne_eqb b 45 h)
