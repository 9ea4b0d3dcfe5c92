-- A product's quotient and rest without the product: a x b = (a / d x b) x d + (a % d) x b, and the second product by the two digits of b.
-- Assumes nothing.
use mathlib.Core.Path.{◌≡◌, refl, ap}
use mathlib.Core.Bool.{true, ◌&&◌}
use Prim.Native.Nat.{ℕ, ◌+◌, ◌*◌, ◌/◌, ◌%◌, ◌<◌, ◌≤◌}
use native.Mathlib.Decide.{dec_lt}
use native.Mathlib.Nat.{div-add-mod', mul-le-mul_right, le-div_iff_mul-le, div-mul-le_self}
use native.Mathlib.Omega.{arith}
use borrow.Author.Tests.{ltb-true}
use lib.Dec.{ltb}
use Rattle.division.specs.Division.{most}
use Rattle.division.specs.Digits.{base, wide, Parts, Divides}
use Rattle.division.proofs.Limits.{both_true}

-- where both tests hold the product fits a word
pub narrow : (r b : ℕ) → (ltb r wide && ltb b base) ≡ true → (r < wide) × (b < base)
narrow r b e = let t = both_true (ltb r wide) (ltb b base) e in (ltb-true r wide t.0, ltb-true b base t.1)

-- two digits of b
module _ (B r b d : ℕ) where
  pub two_digits : {q s p t : ℕ} → Parts (0 * B + r * (b / B)) d q s → Parts (s * B + r * (b % B)) d p t → Parts (r * b) d (q * B + p) t
  two_digits {q} {s} {p} {t} high low = record {
    whole =
        (let digits : r * (b / B * B + b % B) ≡ r * b = ap (λ (x : ℕ). r * x) (div-add-mod' b B) in
        let first : (q * d + s) * B ≡ (0 * B + r * (b / B)) * B = ap (λ (x : ℕ). x * B) high.whole in
        omega (arith, low.whole));
    small = low.small;
  }

-- below d times b, by d, is at most b
pub quotient_most : (r b d : ℕ) {q s : ℕ} → r < d → Parts (r * b) d q s → q ≤ b
quotient_most r b d {q} {s} less parts = go (dec_lt b q)
  where
    go : Dec (b < q) → q ≤ b
    go (yes more) =
        let x : (b + 1) * d ≤ q * d = mul-le-mul_right d (omega arith) in
        let y : r * b ≤ d * b = mul-le-mul_right b (omega arith) in
        absurd (omega (arith, parts.whole))
    go (no f) = omega arith

-- a x b by d, from the quotient of a and what is left of it
module _ (a b d : ℕ) (h : 0 < d) where
  part_less : a / d * b ≤ a * b / d
  part_less = (le-div_iff_mul-le h).1 (omega (arith, mul-le-mul_right b (div-mul-le_self a d)))

  pub over_first : most < a / d * b → Divides a b d (most + 1) 0
  over_first more = record { within = λ l. absurd (omega arith); over = λ l. (omega (arith, part_less), refl, refl) }

  pub whole_parts : {q s : ℕ} → Parts (a % d * b) d q s → Parts (a * b) d (a / d * b + q) s
  whole_parts part = record {
    whole = (let x : (a / d * d + a % d) * b ≡ a * b = ap (λ (y : ℕ). y * b) (div-add-mod' a d) in omega (arith, part.whole));
    small = part.small;
  }
