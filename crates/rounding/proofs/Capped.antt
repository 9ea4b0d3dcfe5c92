-- A rounded magnitude from a quotient that is capped one above 10^18: over it the magnitude is over it too, and within it the magnitude
-- rises to one above at most. Where the product's quotient is known to be within, the leaf gives the rounded magnitude itself. Assumes nothing.
use mathlib.Core.Path.{◌≡◌, refl, sym, ap, ◌∙◌}
use mathlib.Core.Bool.{Bool, true, false}
use Prim.Native.Nat.{ℕ, ◌+◌, ◌*◌, ◌/◌, ◌%◌, ◌<◌, ◌≤◌}
use native.Mathlib.Decide.{dec_lt}
use native.Mathlib.Omega.{arith}
use borrow.Author.Tests.{lt-ltb, le-ltb, le-leb, lt-leb}
use Rattle.division.specs.declared.Division.{Division}
use Rattle.division.specs.Division.{most, within, too_large, division_of}
use Rattle.division.proofs.Limits.{limits, inside}
use Rattle.rounding.specs.declared.Rule.{Rule}
use Rattle.rounding.specs.Modes.{rises_by}
use Rattle.rounding.specs.Leaf.{rest_of, is_odd, raised, rounded_magnitude}
use Rattle.rounding.specs.Product.{capped, rounded_product}
use Rattle.rounding.proofs.Bounds.{at_divisor}
use Rattle.rounding.proofs.Threshold.{by_threshold}

pub capped_is : (n : ℕ) → n ≤ most + 1 → capped n ≡ n
unfolding capped
capped_is n h = go (dec_lt most n)
  where
    go : Dec (most < n) → capped n ≡ n
    go (yes more) = rw (lt-ltb most n more) (omega arith)
    go (no f) = rw (le-ltb most n (omega arith))

module _ (rule : Rule) (sign : Bool) (a b d : ℕ) where
  -- what a caller whose factors are within their limits is given
  pub product_within : a ≤ most → b ≤ most → 0 < d → d ≤ most → rounded_product rule sign a b d ≡ capped (rounded_magnitude rule sign (a * b) d)
  unfolding rounded_product
  product_within small other some large = rw (inside a b d small other some large)

  pub product_is : a ≤ most → b ≤ most → 0 < d → d ≤ most → rounded_magnitude rule sign (a * b) d ≤ most + 1
      → rounded_product rule sign a b d ≡ rounded_magnitude rule sign (a * b) d
  product_is small other some large fits = product_within small other some large ∙ capped_is (rounded_magnitude rule sign (a * b) d) fits

  capped_over : 0 < d → most < a * b / d → capped (rounded_magnitude rule sign (a * b) d) ≡ most + 1
  unfolding capped
  capped_over h more =
      let n = rounded_magnitude rule sign (a * b) d in
      let over : most < n = by_threshold rule sign (a * b) d h (λ (x : ℕ). most < x) (λ r. omega arith) (λ s. more) in
      rw (lt-ltb most n over)

  raised_most : (up : Bool) (q : ℕ) → q ≤ most → raised up q ≤ most + 1
  raised_most true q l = omega arith
  raised_most false q l = omega arith

  -- the division over its limit
  pub rounded_over : most < (division_of a b d).quotient → most + 1 ≡ rounded_product rule sign a b d
  unfolding division_of rounded_product
  rounded_over more = sym (go (within a b d) refl (dec_lt most (a * b / d)))
    where
      go : (w : Bool) → within a b d ≡ w → Dec (most < a * b / d) → rounded_product rule sign a b d ≡ most + 1
      go false e side = rw e
      go true e (yes over) = rw e (capped_over (limits a b d e).2 over)
      go true e (no f) =
          let same : division_of a b d ≡ record { quotient = a * b / d; rest = a * b % d } = rw (e, le-leb (a * b / d) most (omega arith)) in
          absurd (omega (arith, ap (λ (x : Division). x.quotient) same))

  -- and within it: the limits hold then, the quotient and the rest are the product's
  pub division_within : (division_of a b d).quotient ≤ most
      → (within a b d ≡ true) × ((division_of a b d).quotient ≡ a * b / d) × ((division_of a b d).rest ≡ a * b % d)
  unfolding division_of
  division_within l = go (within a b d) refl (dec_lt most (a * b / d))
    where
      too_large_lem : division_of a b d ≡ too_large → ⊥
      too_large_lem e = omega (arith, ap (λ (x : Division). x.quotient) e)

      go : (w : Bool) → within a b d ≡ w → Dec (most < a * b / d)
          → (within a b d ≡ true) × ((division_of a b d).quotient ≡ a * b / d) × ((division_of a b d).rest ≡ a * b % d)
      go false e side = absurd (too_large_lem (rw e))
      go true e (yes over) = absurd (too_large_lem (rw (e, lt-leb (a * b / d) most over)))
      go true e (no f) =
          let same : division_of a b d ≡ record { quotient = a * b / d; rest = a * b % d } = rw (e, le-leb (a * b / d) most (omega arith)) in
          (e, ap (λ (x : Division). x.quotient) same, ap (λ (x : Division). x.rest) same)

  pub rounded_within : within a b d ≡ true → a * b / d ≤ most
      → raised (rises_by rule sign (is_odd (a * b / d)) (rest_of (a * b % d) d)) (a * b / d) ≡ rounded_product rule sign a b d
  unfolding rounded_product
  rounded_within e l =
      let up = rises_by rule sign (is_odd (a * b / d)) (rest_of (a * b % d) d) in
      sym
      (rw (e, at_divisor rule sign (a * b) d (limits a b d e).2)
      (capped_is (raised up (a * b / d)) (raised_most up (a * b / d) l)))
