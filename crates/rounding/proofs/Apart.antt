-- How far two signed numbers are apart, by sign and magnitude: under one sign the distance of the magnitudes, across 0 their sum.
-- Assumes nothing.
use mathlib.Core.Path.{◌≡◌, sym, ◌∙◌, ap, ap₂}
use mathlib.Core.Bool.{Bool, true, false, not}
use Prim.Native.Nat.{ℕ, zero, suc, ◌+◌, ◌-◌, ◌*◌, ◌<◌}
use native.Mathlib.Decide.{dec_lt}
use native.Mathlib.Omega.{arith}
use borrow.Author.Tests.{lt-ltb, le-ltb}
use lib.IntN.{ℤ, pos, neg_ℤ, neg_ℤ-neg_ℤ, neg_ℤ-+ℤ, ◌+ℤ◌, ◌-ℤ◌, ◌*ℤ◌}
use Rattle.whole.specs.Whole.{negative, magnitude_of, signed_of}
use Rattle.whole.proofs.Laws.{sign_and_magnitude, signed_opposite, magnitude_opposite}
use Rattle.rounding.proofs.Order.{signed_times}

abbrev pub distance : (a b : ℤ) → ℕ
distance a b = magnitude_of (a -ℤ b)

from_zero : (a b : ℕ) → distance (pos a) (pos b) ≡ (a - b) + (b - a)
from_zero a zero = omega arith
from_zero a (suc b) = at (dec_lt a (suc b))
  where
    at : Dec (a < suc b) → distance (pos a) (pos (suc b)) ≡ (a - suc b) + (suc b - a)
    at (yes less) = rw (lt-ltb a (suc b) less) (omega arith)
    at (no f) = rw (le-ltb a (suc b) (omega arith)) (omega arith)

over_zero : (a b : ℕ) → distance (pos a) (signed_of true b) ≡ a + b
over_zero a b = ap (distance (pos a)) (signed_opposite false b) ∙ ap (λ (z : ℤ). magnitude_of (pos a +ℤ z)) (neg_ℤ-neg_ℤ (pos b))

-- a mirror keeps distances
mirrored : (a b : ℤ) → distance (neg_ℤ a) (neg_ℤ b) ≡ distance a b
mirrored a b = ap magnitude_of (sym (neg_ℤ-+ℤ a (neg_ℤ b))) ∙ magnitude_opposite (a -ℤ b)

pub apart : (negative : Bool) (a b : ℕ) → distance (signed_of negative a) (signed_of negative b) ≡ (a - b) + (b - a)
apart false a b = from_zero a b
apart true a b = ap₂ distance (signed_opposite false a) (signed_opposite false b) ∙ mirrored (pos a) (pos b) ∙ from_zero a b

pub across : (negative : Bool) (a b : ℕ) → distance (signed_of negative a) (signed_of (not negative) b) ≡ a + b
across false a b = over_zero a b
across true a b = ap₂ distance (signed_opposite false a) (signed_opposite true b) ∙ mirrored (pos a) (signed_of true b) ∙ over_zero a b

-- the same from n to a multiple of d
module _ (n : ℤ) (m d : ℕ) where
  pub apart_multiple : distance n (signed_of (negative n) m *ℤ pos d) ≡ (magnitude_of n - m * d) + (m * d - magnitude_of n)
  apart_multiple =
      ap₂ distance (sym (sign_and_magnitude n)) (signed_times (negative n) m d) ∙ apart (negative n) (magnitude_of n) (m * d)

  pub across_multiple : distance n (signed_of (not (negative n)) m *ℤ pos d) ≡ magnitude_of n + m * d
  across_multiple =
      ap₂ distance (sym (sign_and_magnitude n)) (signed_times (not (negative n)) m d) ∙ across (negative n) (magnitude_of n) (m * d)
