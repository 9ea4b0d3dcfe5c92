-- The worth of a byte, by where it lies beside the digits; and of a digit of a number, which is the number. Assumes nothing.
use mathlib.Core.Path.{◌≡◌, refl, sym, ◌∙◌}
use mathlib.Core.Bool.{Bool, true, false, cond, ◌&&◌}
use mathlib.Core.List.{List, [], ◌∷◌}
use Prim.Native.Nat.{ℕ, suc, ◌+◌, ◌-◌, ◌≤◌, ◌<◌}
use native.Mathlib.Decide.{dec_lt}
use native.Mathlib.Omega.{arith}
use borrow.Author.Tests.{lt-ltb, le-ltb, le-leb, lt-leb}
use lib.Dec.{eqb, eqb-suc-suc, eqb-zero-suc}
use lib.ListN.{length}
use Rattle.std.specs.List.{list_all}
use Rattle.lines.specs.Lines.{span}
use Rattle.hexadecimal.specs.Hexadecimal.{worth_of, is_digit, digit_of}

module _ (b : ℕ) where
  pub below_figures : b < 48 → 16 ≡ worth_of b
  unfolding worth_of
  below_figures h = rw (lt-leb 48 b h, lt-leb 65 b (omega arith), lt-leb 97 b (omega arith))

  pub figure : 48 ≤ b → b ≤ 57 → b - 48 ≡ worth_of b
  unfolding worth_of
  figure l h = rw (le-leb 48 b l, le-leb b 57 h)

  pub below_capitals : 57 < b → b < 65 → 16 ≡ worth_of b
  unfolding worth_of
  below_capitals l h = rw (le-leb 48 b (omega arith), lt-leb b 57 l, lt-leb 65 b h, lt-leb 97 b (omega arith))

  pub capital : 65 ≤ b → b ≤ 70 → b - 65 + 10 ≡ worth_of b
  unfolding worth_of
  capital l h = rw (le-leb 48 b (omega arith), lt-leb b 57 (omega arith), le-leb 65 b l, le-leb b 70 h) (omega arith)

  pub below_smalls : 70 < b → b < 97 → 16 ≡ worth_of b
  unfolding worth_of
  below_smalls l h =
      rw (le-leb 48 b (omega arith), lt-leb b 57 (omega arith), le-leb 65 b (omega arith), lt-leb b 70 l, lt-leb 97 b h)

  pub small : 97 ≤ b → b ≤ 102 → b - 97 + 10 ≡ worth_of b
  unfolding worth_of
  small l h =
      rw (le-leb 48 b (omega arith), lt-leb b 57 (omega arith), le-leb 65 b (omega arith), lt-leb b 70 (omega arith), le-leb 97 b l, le-leb b 102 h)
      (omega arith)

  pub above_smalls : 102 < b → 16 ≡ worth_of b
  unfolding worth_of
  above_smalls h =
      rw (le-leb 48 b (omega arith), lt-leb b 57 (omega arith), le-leb 65 b (omega arith), lt-leb b 70 (omega arith), le-leb 97 b (omega arith), lt-leb b 102 h)

-- each byte is a digit where the digits go on to the end
pub digits_all : (word : List ℕ) → list_all is_digit word ≡ eqb (span is_digit word) (length word)
unfolding span
digits_all [] = refl
digits_all (b ∷ bs) = at (is_digit b) (digits_all bs)
  where
    at
        : (t : Bool) → list_all is_digit bs ≡ eqb (span is_digit bs) (length bs)
        → (t && list_all is_digit bs) ≡ eqb (cond t (suc (span is_digit bs)) 0) (suc (length bs))
    at true e = rw eqb-suc-suc e
    at false e = rw eqb-zero-suc

-- a digit's byte lies among the figures or the small letters, and has the number's worth
pub digit_worth : (n : ℕ) → n < 16 → worth_of (digit_of n) ≡ n
unfolding digit_of
digit_worth n h = at (dec_lt n 10)
  where
    at : Dec (n < 10) → worth_of (digit_of n) ≡ n
    at (yes l) = rw (lt-ltb n 10 l) (sym (figure (48 + n) (omega arith) (omega arith)) ∙ omega arith)
    at (no l) = rw (le-ltb n 10 (omega arith)) (sym (small (87 + n) (omega arith) (omega arith)) ∙ omega arith)
