-- Two factors that leave 69 of 128 bits unused have a product below 2^59, within 10^18: the quotient of that one number is the leaf's.
-- Assumes nothing.
use mathlib.Core.Path.{◌≡◌, sym}
use mathlib.Core.Bool.{Bool, true, ◌&&◌}
use Prim.Native.Nat.{ℕ, ◌+◌, ◌*◌, ◌^◌, ◌<◌, ◌≤◌}
use native.Mathlib.Nat.{mul-le-mul}
use native.Mathlib.Omega.{arith}
use borrow.Author.Tests.{leb-true}
use lib.Count.{count_leading_zeros, leading_length}
use lib.Dec.{leb}
use lib.Pow.{pow-add, pow_mono}
use Rattle.division.specs.Division.{most}
use Rattle.division.proofs.Limits.{both_true}
use Rattle.rounding.specs.declared.Rule.{Rule}
use Rattle.rounding.specs.Leaf.{rounded_magnitude}
use Rattle.rounding.specs.Product.{rounded_product}
use Rattle.rounding.specs.Short.{spare, is_short}
use Rattle.rounding.proofs.Bounds.{at_most}
use Rattle.rounding.proofs.Capped.{product_is}

-- a number below 2^m, and one below 2^n, where m and n are at most 59 together
module _ (m n : ℕ) (few : m + n ≤ 59) where
  below : (a : ℕ) → a < 2 ^ m → a ≤ most
  below a h = let x : 2 ^ m ≤ 2 ^ 59 = pow_mono {i = m} {j = 59} (omega arith) in omega arith

  product : (a b : ℕ) → a < 2 ^ m → b < 2 ^ n → a * b ≤ most
  product a b h k =
      let x : 2 ^ (m + n) ≤ 2 ^ 59 = pow_mono {i = m + n} {j = 59} few in
      let y : a * b ≤ 2 ^ m * 2 ^ n = mul-le-mul (omega arith) (omega arith) in
      omega (arith, pow-add 2 m n)

pub record Within (a b d : ℕ) : Type 0 where
  pub first : a ≤ most
  pub second : b ≤ most
  pub some : 0 < d
  pub divisor : d ≤ most
  pub product : a * b ≤ most

pub short_within : (a b d : ℕ) → a < 2 ^ 64 → b < 2 ^ 64 → is_short a b d ≡ true → Within a b d
unfolding is_short
short_within a b d fa fb e =
    let two = both_true (leb spare (count_leading_zeros 64 a + count_leading_zeros 64 b) && leb 1 d) (leb d most) e in
    let one = both_true (leb spare (count_leading_zeros 64 a + count_leading_zeros 64 b)) (leb 1 d) two.0 in
    let x = leading_length 64 a fa in
    let y = leading_length 64 b fb in
    let unused : spare ≤ count_leading_zeros 64 a + count_leading_zeros 64 b = leb-true spare (count_leading_zeros 64 a + count_leading_zeros 64 b) one.0 in
    let few : x.0 + y.0 ≤ 59 = omega (arith, x.1, y.1) in
    record {
      first = below x.0 y.0 few a x.2;
      second = below y.0 x.0 (omega arith) b y.2;
      some = leb-true 1 d one.1;
      divisor = leb-true d most two.1;
      product = product x.0 y.0 few a b x.2 y.2;
    }

-- the quotient of the one number
pub short_is : (rule : Rule) (sign : Bool) (a b d : ℕ) → Within a b d → rounded_magnitude rule sign (a * b) d ≡ rounded_product rule sign a b d
short_is rule sign a b d w =
    sym
    (product_is rule sign a b d w.first w.second w.some w.divisor
    (omega (arith, w.product, at_most rule sign (a * b) d)))
