-- A coefficient's word holds it, and a word is that of the coefficient that it holds. Assumes nothing.
use mathlib.Core.Path.{◌≡◌, refl, ap}
use mathlib.Core.Bool.{true, false, cond}
use Prim.Native.Nat.{ℕ, suc, ◌+◌, ◌-◌, ◌≤◌, ◌<◌, ◌^◌}
use native.Mathlib.Decide.{dec_lt}
use native.Mathlib.Numerals.{add-one}
use native.Mathlib.Omega.{arith}
use borrow.Author.Tests.{lt-ltb, le-ltb}
use lib.Dec.{ltb}
use lib.IntN.{ℤ, pos, negsuc}
use mir.Syntax.{w64}
use mir.Val.{SFits, to_z, of_z}
use Rattle.whole.specs.Whole.{negative, magnitude_of, held_signed}
use Rattle.whole.proofs.Laws.{held_within}
use Rattle.statement.specs.Bytes.{word_of, from_word}

pub word_below : (z : ℤ) → magnitude_of z < 2 ^ 63 → word_of z < 256 ^ 8
unfolding word_of
word_below (pos n) h = omega arith
word_below (negsuc n) h = omega arith

pub from_word_of : (z : ℤ) → magnitude_of z < 2 ^ 63 → from_word (word_of z) ≡ z
unfolding word_of from_word
from_word_of (pos n) h = rw (lt-ltb n (2 ^ 63) h)
from_word_of (negsuc n) h = rw (le-ltb (2 ^ 64 - 1 - n) (2 ^ 63) (omega arith)) (ap negsuc (omega arith))

pub word_from : (w : ℕ) → w < 2 ^ 64 → word_of (from_word w) ≡ w
unfolding word_of from_word
word_from w h = go (dec_lt w (2 ^ 63))
  where
    go : Dec (w < 2 ^ 63) → word_of (from_word w) ≡ w
    go (yes less) = rw (lt-ltb w (2 ^ 63) less)
    go (no f) = rw (le-ltb w (2 ^ 63) (omega arith)) (omega arith)

-- a number below 0 has a magnitude above 0, and an i64 one of at most 2^63
pub above : (z : ℤ) → negative z ≡ true → 0 < magnitude_of z
above (pos n) e = let z : ◌≡◌ {A = ℕ} 0 1 = cc in absurd (omega arith)
above (negsuc n) e = omega arith

pub within : (z : ℤ) → SFits w64 z → magnitude_of z ≤ 2 ^ 63
within (pos n) h = omega (arith, h.sfits)
within (negsuc n) h = omega (arith, h.sfits)

-- as the machine makes a word of a sign and a magnitude, and back
pub word_negative : (z : ℤ) → negative z ≡ true → magnitude_of z ≤ 2 ^ 63 → 2 ^ 64 - 1 - magnitude_of z + 1 ≡ word_of z
unfolding word_of
word_negative (pos n) e h = let z : ◌≡◌ {A = ℕ} 0 1 = cc in absurd (omega arith)
word_negative (negsuc n) e h = omega arith

pub word_positive : (z : ℤ) → negative z ≡ false → magnitude_of z ≡ word_of z
unfolding word_of
word_positive (pos n) e = refl
word_positive (negsuc n) e = let z : ◌≡◌ {A = ℕ} 0 1 = cc in absurd (omega arith)

pub held_small : (w : ℕ) → w < 2 ^ 63 → held_signed false w ≡ from_word w
unfolding from_word
held_small w h = rw (lt-ltb w (2 ^ 63) h) (held_within false w h)

pub held_large : (w : ℕ) → 2 ^ 63 ≤ w → held_signed true (2 ^ 64 - 1 - w + 1) ≡ from_word w
unfolding from_word
held_large w h =
    rw (le-ltb w (2 ^ 63) h, le-ltb (2 ^ 63) (2 ^ 64 - 1 - w + 1) (omega arith), add-one (2 ^ 64 - 1 - w))

-- as the machine holds a coefficient, and reads a word as one
pub word_is : (z : ℤ) → of_z w64 z ≡ word_of z
unfolding word_of
word_is (pos n) = refl
word_is (negsuc n) = omega arith

pub held_is : (w : ℕ) → to_z w64 w ≡ from_word w
unfolding from_word
held_is w = let rest : 2 ^ 64 - suc w ≡ 2 ^ 64 - 1 - w = omega arith in ap (λ (k : ℕ). cond (ltb w (2 ^ 63)) (pos w) (negsuc k)) rest
