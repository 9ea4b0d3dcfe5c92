-- A coefficient at another scale, by sign and magnitude: a product with a power of ten keeps the sign and multiplies the magnitude, and the
-- magnitude of a sum is between the difference and the sum of the magnitudes. Assumes nothing.
use mathlib.Core.Path.{◌≡◌, refl, sym, ◌∙◌, ap, ap₂}
use mathlib.Core.Bool.{Bool, false, not}
use Prim.Native.Nat.{ℕ, suc, ◌+◌, ◌*◌, ◌<◌, ◌≤◌, ◌^◌}
use native.Mathlib.Nat.{pow-le-pow_right, one-le-pow}
use native.Mathlib.Decide.{dec_lt}
use native.Mathlib.Omega.{arith}
use borrow.Author.Tests.{lt-ltb, le-ltb}
use lib.IntN.{ℤ, pos, negsuc, neg_ℤ, sub_ℕ, ◌+ℤ◌, ◌*ℤ◌}
use mir.Syntax.{w64}
use mir.Val.{SFits}
use Rattle.whole.specs.Whole.{negative, magnitude_of, signed_of, held_signed}
use Rattle.whole.proofs.Laws.{sign_and_magnitude, magnitude_signed, signed_opposite, held_within}
use Rattle.rounding.specs.declared.Rule.{Rule}
use Rattle.rounding.specs.Leaf.{rounded, rounded_magnitude}
use Rattle.amount.specs.Amounts.{last_scale}

-- the powers of ten up to 10^6
pub ten_some : (k : ℕ) → 0 < 10 ^ k
ten_some k = one-le-pow k 10 (omega arith)

pub ten_most : (k : ℕ) → k ≤ last_scale → 10 ^ k ≤ 1000000
ten_most k h = pow-le-pow_right {n = 10} (omega arith) h

-- a product with a number that isn't negative, by sign and magnitude
pub product : (z : ℤ) (f : ℕ) → z *ℤ pos f ≡ signed_of (negative z) (magnitude_of z * f)
product (pos n) f = refl
product (negsuc n) f = sym (signed_opposite false (suc n * f))

pub magnitude_product : (z : ℤ) (f : ℕ) → magnitude_of (z *ℤ pos f) ≡ magnitude_of z * f
magnitude_product z f = ap magnitude_of (product z f) ∙ magnitude_signed (negative z) (magnitude_of z * f)

difference : (a b : ℕ) → magnitude_of (sub_ℕ a b) ≤ a + b
difference a b = go (dec_lt a b)
  where
    go : Dec (a < b) → magnitude_of (sub_ℕ a b) ≤ a + b
    go (yes less) = rw (lt-ltb a b less) (omega arith)
    go (no f) = rw (le-ltb a b (omega arith)) (omega arith)

-- the magnitude of a sum is at most the sum of the magnitudes
pub magnitude_sum : (x y : ℤ) → magnitude_of (x +ℤ y) ≤ magnitude_of x + magnitude_of y
magnitude_sum (pos a) (pos b) = omega arith
magnitude_sum (pos a) (negsuc b) = difference a (suc b)
magnitude_sum (negsuc a) (pos b) = omega (arith, difference b (suc a))
magnitude_sum (negsuc a) (negsuc b) = omega arith

-- and a term's is at most the sum's and the other term's together
least : (a b : ℕ) → (a ≤ magnitude_of (sub_ℕ a b) + b) × (b ≤ magnitude_of (sub_ℕ a b) + a)
least a b = go (dec_lt a b)
  where
    go : Dec (a < b) → (a ≤ magnitude_of (sub_ℕ a b) + b) × (b ≤ magnitude_of (sub_ℕ a b) + a)
    go (yes less) = rw (lt-ltb a b less) (omega arith, omega arith)
    go (no f) = rw (le-ltb a b (omega arith)) (omega arith, omega arith)

pub magnitude_term : (x y : ℤ) → magnitude_of x ≤ magnitude_of (x +ℤ y) + magnitude_of y
magnitude_term (pos a) (pos b) = omega arith
magnitude_term (pos a) (negsuc b) = (least a (suc b)).0
magnitude_term (negsuc a) (pos b) = (least b (suc a)).1
magnitude_term (negsuc a) (negsuc b) = omega arith

-- what an i64 holds
pub fits : (z : ℤ) → magnitude_of z < 2 ^ 63 → SFits w64 z
fits (pos n) h = record { sfits = h }
fits (negsuc n) h = record { sfits = omega arith }

-- the opposite and the rounded quotient as a program makes them, from a sign and a magnitude
module _ (z : ℤ) (sign : Bool) (m : ℕ) where
  pub held_opposite : sign ≡ not (negative z) → m ≡ magnitude_of z → m < 2 ^ 63 → held_signed sign m ≡ neg_ℤ z
  held_opposite signs magnitudes h =
      held_within sign m h ∙ ap₂ signed_of signs magnitudes ∙ signed_opposite (negative z) (magnitude_of z) ∙ ap neg_ℤ (sign_and_magnitude z)

  pub held_rounded : (rule : Rule) (d : ℕ)
      → sign ≡ negative z → m ≡ rounded_magnitude rule (negative z) (magnitude_of z) d → m < 2 ^ 63 → held_signed sign m ≡ rounded rule z d
  unfolding rounded
  held_rounded rule d signs magnitudes h = held_within sign m h ∙ ap₂ signed_of signs magnitudes
