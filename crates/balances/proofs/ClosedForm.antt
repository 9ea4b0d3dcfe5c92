-- Document 02, Ask 6: "after n periods its distance from principal x (1 + rate)^n is at most half a unit times the sum of (1 + rate)^j for j from 0 to
-- n - 1, all scaled by 10,000^n". Each interest is at most half a unit from exact, and the distance before it grows by 1 + rate. Assumes nothing.
use mathlib.Core.Path.{◌≡◌, refl, ap, ◌∙◌}
use mathlib.Core.Bool.{false}
use Prim.Native.Nat.{ℕ, zero, suc, ◌+◌, ◌-◌, ◌*◌, ◌^◌, ◌≤◌}
use native.Mathlib.Nat.{mul-le-mul_right, pow-suc, pow-zero}
use native.Mathlib.Omega.{arith}
use lib.IntN.{pos}
use Rattle.whole.proofs.Sums.{sum_to, sum_same}
use Rattle.rounding.specs.declared.Rule.TheVariants.{HalfEven}
use Rattle.rounding.specs.Leaf.{rounded_magnitude}
use Rattle.rounding.proofs.Apart.{distance, apart}
use Rattle.rounding.proofs.Nearest.{nearest, half_even}
use Rattle.balances.specs.Rule.{points, interest_on, balance_at}

-- "the sum of (1 + rate)^j for j from 0 to n - 1, ... scaled by 10,000^n"
unfoldable pub growth : (rate n : ℕ) → ℕ
growth r n = sum_to (λ j. (points + r) ^ j * points ^ (n - j)) n

module _ (r : ℕ) where
  none : growth r 0 ≡ 0
  unfolding growth sum_to
  none = refl

  sum_times : (f : ℕ → ℕ) (n : ℕ) → sum_to (λ j. f j * points) n ≡ sum_to f n * points
  unfolding sum_to
  sum_times f zero = refl
  sum_times f (suc n) = omega (arith, sum_times f n)

  -- the sum with its last term apart, and with its first
  grows_last : (n : ℕ) → growth r (suc n) ≡ growth r n * points + (points + r) ^ n * points
  unfolding growth sum_to
  grows_last n =
      let same : sum_to (λ j. (points + r) ^ j * points ^ (suc n - j)) n ≡ sum_to (λ j. (points + r) ^ j * points ^ (n - j) * points) n =
      sum_same _ _ n (λ j l. let e : suc n - j ≡ suc (n - j) = omega arith in rw (e, pow-suc) (omega arith)) in
      let last : points ^ (suc n - n) ≡ points = (let e : suc n - n ≡ 1 = omega arith in rw e) in
      rw (same, sum_times (λ j. (points + r) ^ j * points ^ (n - j)) n, last)

  grows_first : (n : ℕ) → growth r (suc n) ≡ points ^ suc n + (points + r) * growth r n
  grows_first zero =
      omega (arith, grows_last zero, none, ap (λ (x : ℕ). x * r) none, pow-zero (points + r), pow-suc points zero, pow-zero points)
  grows_first (suc n) =
      let again : growth r (suc n) * points ≡ (points ^ suc n + (points + r) * growth r n) * points = ap (λ (x : ℕ). x * points) (grows_first n) in
      let before : growth r (suc n) * r ≡ (growth r n * points + (points + r) ^ n * points) * r = ap (λ (x : ℕ). x * r) (grows_last n) in
      grows_last (suc n)
      ∙ rw (pow-suc points (suc n), pow-suc (points + r) n) (omega (arith, grows_last n, grows_first n))

  -- on either side
  near : (p n : ℕ)
      → (2 * (balance_at p r n * points ^ n) ≤ 2 * (p * (points + r) ^ n) + growth r n)
      × (2 * (p * (points + r) ^ n) ≤ 2 * (balance_at p r n * points ^ n) + growth r n)
  unfolding balance_at interest_on
  near p zero =
      let one : p * (points + r) ^ 0 ≡ p * 1 = ap (λ (x : ℕ). p * x) (pow-zero (points + r)) in
      let first : balance_at p r 0 ≡ p = refl in (omega (arith, none), omega (arith, none))
  near p (suc n) =
      let x = balance_at p r n in
      let t = rounded_magnitude HalfEven false (x * r) points in
      let w = points ^ n in
      let g = (points + r) ^ n in
      let close = nearest half_even false (x * r) points (omega arith) in
      let before = near p n in
      let a : 2 * t * points * w ≤ (2 * (x * r) + points) * w = mul-le-mul_right w close.0 in
      let b : 2 * (x * r) * w ≤ (2 * t * points + points) * w = mul-le-mul_right w close.1 in
      let c : 2 * (x * w) * (points + r) ≤ (2 * (p * g) + growth r n) * (points + r) = mul-le-mul_right (points + r) before.0 in
      let d : 2 * (p * g) * (points + r) ≤ (2 * (x * w) + growth r n) * (points + r) = mul-le-mul_right (points + r) before.1 in
      rw (pow-suc points n, pow-suc (points + r) n, grows_first n) (rw (pow-suc points n) (omega arith, omega arith))

  -- THE LAW: twice the distance is at most the sum
  pub closed_form : (p n : ℕ) → 2 * distance (pos (balance_at p r n * points ^ n)) (pos (p * (points + r) ^ n)) ≤ growth r n
  closed_form p n = rw (apart false (balance_at p r n * points ^ n) (p * (points + r) ^ n)) (omega (arith, near p n))
