-- What is passed on of a number, for any largest value: the number where the type holds it, else the largest. So what is passed on stays within
-- a limit below the largest value only where it is the number that was given: no number past a limit is taken for one within it. Assumes nothing.
use mathlib.Core.Path.{◌≡◌, refl, ap}
use mathlib.Core.Bool.{true, false}
use Prim.Native.Nat.{ℕ, ◌≤◌, ◌<◌, ◌^◌}
use native.Mathlib.Omega.{arith}
use lib.IntN.{ℤ, pos, negsuc}
use Rattle.whole.specs.Whole.{negative, magnitude_of}
use Rattle.flat.specs.Given.{passed}

pub below_zero : (largest : ℕ) (n : ℤ) → negative n ≡ true → passed largest n ≡ largest
below_zero largest (pos n) e = let z : ◌≡◌ {A = ℕ} 0 1 = cc in absurd (omega arith)
below_zero largest (negsuc n) e = refl

pub too_large_lem : (largest : ℕ) (n : ℤ) → negative n ≡ false → largest < magnitude_of n → passed largest n ≡ largest
too_large_lem largest (pos n) e h = omega arith
too_large_lem largest (negsuc n) e h = refl

pub held : (largest : ℕ) (n : ℤ) → negative n ≡ false → magnitude_of n ≤ largest → passed largest n ≡ magnitude_of n
held largest (pos n) e h = omega arith
held largest (negsuc n) e h = let z : ◌≡◌ {A = ℕ} 0 1 = cc in absurd (omega arith)

pub at_most : (largest : ℕ) (n : ℤ) → passed largest n ≤ largest
at_most largest (pos n) = omega arith
at_most largest (negsuc n) = omega arith

-- within a limit below the largest value stands only the number that was given
pub within_limit : (limit largest : ℕ) (n : ℤ) → limit < largest → passed largest n ≤ limit → n ≡ pos (passed largest n)
within_limit limit largest (pos n) l h = ap pos (omega arith)
within_limit limit largest (negsuc n) l h = absurd (omega arith)

-- and each limit of document 01 is below the largest value of its type: the mode and the scale, the count, the currency, the day, the year, the
-- two rates, the plain divisor
pub limits_below : (6 < 255) × ((16 < 255) × ((20 < 255) × ((31 < 255) × ((2199 < 65535) × ((1000000 < 4294967295) × (10 ^ 18 < 18446744073709551615))))))
limits_below = (omega arith, (omega arith, (omega arith, (omega arith, (omega arith, (omega arith, omega arith))))))
