-- The sum of at most 4,000 coefficients within L is far from the limits of an i64; sums of the same numbers are the same. Assumes nothing.
use mathlib.Core.Path.{◌≡◌, refl, ◌∙◌, ap₂}
use Prim.Native.Nat.{ℕ, zero, suc, ◌+◌, ◌*◌, ◌≤◌, ◌<◌, ◌^◌}
use native.Mathlib.Nat.{mul-le-mul_right, le_trans}
use native.Mathlib.Numerals.{add-one}
use native.Mathlib.Omega.{arith}
use lib.IntN.{ℤ, pos, ◌+ℤ◌}
use mir.Syntax.{w64}
use mir.Val.{SFits, to_z, of_z}
use mir.ValLaws.{to_z-of_z}
use Rattle.whole.specs.Whole.{magnitude_of}
use Rattle.amount.specs.Amounts.{largest}
use Rattle.amount.proofs.Scales.{magnitude_sum, fits}
use Rattle.statement.specs.Files.{total_of, most_records}
use Rattle.statement.specs.Parts.{Few}

-- L is at most 10^15: all that is used of it
pub bounded : largest ≤ 10 ^ 15
bounded = omega arith

-- so that 4,000 times L is below 2^63
far_below : (n : ℕ) → n ≤ most_records → n * largest < 2 ^ 63
far_below n h = omega (arith, mul-le-mul_right largest h)

pub total_none : (f : ℕ → ℤ) → total_of f 0 ≡ pos 0
unfolding total_of
total_none f = refl

-- as a program counts
pub total_more : (f : ℕ → ℤ) (n : ℕ) → total_of f n +ℤ f n ≡ total_of f (n + 1)
unfolding total_of
total_more f n = rw add-one

pub total_same : (f g : ℕ → ℤ) (n : ℕ) → ((i : ℕ) → i < n → f i ≡ g i) → total_of f n ≡ total_of g n
unfolding total_of
total_same f g zero same = refl
total_same f g (suc n) same = ap₂ (λ (x y : ℤ). x +ℤ y) (total_same f g n (λ i h. same i (omega arith))) (same n (omega arith))

module _ (f : ℕ → ℤ) (count : ℕ) (small : Few f count) where
  total_most : (n : ℕ) → n ≤ count → magnitude_of (total_of f n) ≤ n * largest
  unfolding total_of
  total_most zero h = omega arith
  total_most (suc n) h =
      omega (arith, magnitude_sum (total_of f n) (f n), total_most n (omega arith), small.each n (omega arith))

  pub total_within : (n : ℕ) → n ≤ count → magnitude_of (total_of f n) < 2 ^ 63
  total_within n h = omega (arith, total_most n h, far_below n (le_trans h small.few))

  -- the next sum fits
  pub next_fits : (n : ℕ) → n < count → SFits w64 (total_of f n +ℤ f n)
  next_fits n h = fits (total_of f n +ℤ f n) (rw (total_more f n) (total_within (n + 1) (omega arith)))

-- a coefficient within L, as the machine reads back what it holds
pub held_within : (z : ℤ) → magnitude_of z ≤ largest → to_z w64 (of_z w64 z) ≡ z
held_within z h = to_z-of_z w64 z (fits z (omega arith))

-- a loop that sums: a turn
module _ (f : ℕ → ℤ) (count : ℕ) (small : Few f count) (n : ℕ) (sum : ℤ) (so_far : sum ≡ total_of f n) (more : n < count) (y : ℤ) (is : y ≡ f n) where
  next : sum +ℤ y ≡ total_of f n +ℤ f n
  next = ap₂ (λ (a b : ℤ). a +ℤ b) so_far is

  pub sum_fits : SFits w64 (sum +ℤ y)
  sum_fits = rw next (next_fits f count small n more)

  -- the sum as the machine holds it
  pub sum_more : (r : ℤ) → r ≡ sum +ℤ y → to_z w64 (of_z w64 r) ≡ total_of f (n + 1)
  sum_more r e = rw e (to_z-of_z w64 (sum +ℤ y) sum_fits ∙ next ∙ total_more f n)
