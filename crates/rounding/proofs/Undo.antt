-- A part taken of m and put on it is the same part taken off the sum: t of m x r / d is t of (m + t) x r / (d + r), for every rule and sign. For
-- m x r = q x d + s and t = q the second numerator is q x (d + r) + s, for t = q + 1 it is q x (d + r) + (s + r): the quotient is q both times, and
-- the threshold of d + r is from that of d on, and at most 2 r above it. Assumes nothing.
use mathlib.Core.Path.{◌≡◌, ap}
use mathlib.Core.Bool.{Bool, true, false}
use Prim.Native.Nat.{ℕ, ◌+◌, ◌*◌, ◌/◌, ◌%◌, ◌<◌, ◌≤◌}
use native.Mathlib.Nat.{div-add-mod', mod-lt}
use native.Mathlib.Omega.{arith}
use Rattle.division.proofs.Divided.{divided}
use Rattle.rounding.specs.declared.Rule.{Rule}
use Rattle.rounding.specs.declared.Rule.TheVariants.{Up, Down, Ceiling, Floor, HalfUp, HalfDown, HalfEven}
use Rattle.rounding.specs.Leaf.{is_odd, rounded_magnitude}
use Rattle.rounding.proofs.Threshold.{threshold, by_threshold}

-- the threshold of a greater divisor
threshold_grows : (rule : Rule) (sign odd : Bool) (d r : ℕ)
    → (threshold rule sign odd d ≤ threshold rule sign odd (d + r)) × (threshold rule sign odd (d + r) ≤ threshold rule sign odd d + (r + r))
threshold_grows Up sign odd d r = (omega arith, omega arith)
threshold_grows Down sign odd d r = (omega arith, omega arith)
threshold_grows Ceiling true odd d r = (omega arith, omega arith)
threshold_grows Ceiling false odd d r = (omega arith, omega arith)
threshold_grows Floor true odd d r = (omega arith, omega arith)
threshold_grows Floor false odd d r = (omega arith, omega arith)
threshold_grows HalfUp sign odd d r = (omega arith, omega arith)
threshold_grows HalfDown sign odd d r = (omega arith, omega arith)
threshold_grows HalfEven sign true d r = (omega arith, omega arith)
threshold_grows HalfEven sign false d r = (omega arith, omega arith)

-- a rounded magnitude from its division
by_division : (rule : Rule) (sign : Bool) (n d q s : ℕ) → q * d + s ≡ n → s < d → (P : ℕ → Type 0)
    → (threshold rule sign (is_odd q) d ≤ s + s → P (q + 1)) → (s + s < threshold rule sign (is_odd q) d → P q)
    → P (rounded_magnitude rule sign n d)
by_division rule sign n d q s whole small P rises stays =
    let is = divided n d q s whole small in
    by_threshold rule sign n d (omega arith) P (rw (is.0, is.1) rises) (rw (is.0, is.1) stays)

module _ (rule : Rule) (sign : Bool) (d r : ℕ) (h : 0 < d) where
  pub undo : (m : ℕ) → rounded_magnitude rule sign ((m + rounded_magnitude rule sign (m * r) d) * r) (d + r) ≡ rounded_magnitude rule sign (m * r) d
  undo m =
      let q = m * r / d in
      let s = m * r % d in
      let whole : q * d + s ≡ m * r = div-add-mod' (m * r) d in
      let small : s < d = mod-lt (m * r) h in
      let grows = threshold_grows rule sign (is_odd q) d r in
      by_threshold rule sign (m * r) d h (λ (t : ℕ). rounded_magnitude rule sign ((m + t) * r) (d + r) ≡ t)
      (λ reached. by_division rule sign ((m + (q + 1)) * r) (d + r) q (s + r) (omega arith) (omega arith) (λ (x : ℕ). x ≡ q + 1)
      (λ also. omega arith) (λ short. absurd (omega arith)))
      (λ low. by_division rule sign ((m + q) * r) (d + r) q s (omega arith) (omega arith) (λ (x : ℕ). x ≡ q)
      (λ reached. absurd (omega arith)) (λ also. omega arith))

  -- so two numbers that a part of each makes equal are equal
  pub undo_one : (m n : ℕ) → m + rounded_magnitude rule sign (m * r) d ≡ n + rounded_magnitude rule sign (n * r) d → m ≡ n
  undo_one m n same =
      let back = ap (λ (g : ℕ). rounded_magnitude rule sign (g * r) (d + r)) same in
      omega (arith, undo m, undo n)
