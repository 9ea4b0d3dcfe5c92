-- Every rule is monotone: a greater numerator has a greater quotient, or the same one and a greater rest, and from a certain rest on the
-- rule raises it. Below 0 the magnitudes turn the order, and 0 parts the signs. Assumes nothing.
use mathlib.Core.Path.{◌≡◌, ap}
use mathlib.Core.Bool.{Bool, true, false}
use Prim.Native.Nat.{ℕ, suc, ◌+◌, ◌*◌, ◌/◌, ◌%◌, ◌<◌, ◌≤◌}
use native.Mathlib.Decide.{ℕ_discrete}
use native.Mathlib.Nat.{div-add-mod', div-mul-le_self, le-div_iff_mul-le, le_trans}
use native.Mathlib.Omega.{arith}
use lib.Dec.{leb→le}
use lib.IntN.{ℤ, pos, negsuc}
use lib.Signed.{◌≤ℤ◌}
use Rattle.rounding.specs.declared.Rule.{Rule}
use Rattle.rounding.specs.Leaf.{is_odd, rounded, rounded_magnitude}
use Rattle.rounding.proofs.Order.{signed_order, across_zero}
use Rattle.rounding.proofs.Threshold.{threshold, by_threshold}

module _ (rule : Rule) (d : ℕ) (h : 0 < d) where
  pub monotone_magnitude : (negative : Bool) (n m : ℕ) → n ≤ m → rounded_magnitude rule negative n d ≤ rounded_magnitude rule negative m d
  monotone_magnitude negative n m less =
      let quotients : n / d ≤ m / d = (le-div_iff_mul-le h).1 (le_trans (div-mul-le_self n d) less) in
      by_threshold rule negative n d h (λ (x : ℕ). x ≤ rounded_magnitude rule negative m d)
      (λ reached. by_threshold rule negative m d h (λ (y : ℕ). n / d + 1 ≤ y)
      (λ also. omega arith) (λ short. further quotients reached short (ℕ_discrete (n / d) (m / d))))
      (λ low. by_threshold rule negative m d h (λ (y : ℕ). n / d ≤ y) (λ reached. omega arith) (λ short. quotients))
    where
      -- of the same quotient the greater rest rises too
      further : n / d ≤ m / d → threshold rule negative (is_odd (n / d)) d ≤ n % d + n % d
          → m % d + m % d < threshold rule negative (is_odd (m / d)) d → Dec (n / d ≡ m / d) → n / d + 1 ≤ m / d
      further quotients reached short (yes same) =
          let level = ap (λ (q : ℕ). threshold rule negative (is_odd q) d) same in
          let part = ap (λ (q : ℕ). q * d) same in
          omega (arith, div-add-mod' n d, div-add-mod' m d)
      further quotients reached short (no differ) = omega arith

  pub monotone : (n m : ℤ) → n ≤ℤ m → rounded rule n d ≤ℤ rounded rule m d
  unfolding rounded
  monotone (pos n) (pos m) less =
      signed_order false (rounded_magnitude rule false n d) (rounded_magnitude rule false m d)
      (monotone_magnitude false n m (leb→le n m less.le))
  monotone (pos n) (negsuc m) less = absurd less.le
  monotone (negsuc n) (pos m) less = across_zero (rounded_magnitude rule true (suc n) d) (rounded_magnitude rule false m d)
  monotone (negsuc n) (negsuc m) less =
      let turned : m ≤ n = leb→le m n less.le in
      signed_order true (rounded_magnitude rule true (suc n) d) (rounded_magnitude rule true (suc m) d)
      (monotone_magnitude true (suc m) (suc n) (omega arith))
