-- "the coefficient becomes a double without loss and is divided once by 1, 10, 100 or 1,000; exact at scale 0": a coefficient within L and each divisor are
-- doubles exactly; so the export is what the language's one rounding makes of coefficient / 10^scale, and at scale 0 it is the coefficient. Assumes nothing.
use mathlib.Core.Path.{◌≡◌, refl, sym, ◌∙◌, ap, subst}
use mathlib.Core.Bool.{Bool, true, false}
use Prim.Native.Nat.{ℕ, suc, ◌*◌, ◌^◌, ◌<◌, ◌≤◌}
use native.Mathlib.Nat.{mul-pos, pow-le-pow_right}
use native.Mathlib.Omega.{arith}
use borrow.Author.Tests.{ne_eqb}
use lib.Dec.{T, le→leb}
use lib.IntN.{ℤ, pos, negsuc}
use lib.Ieee.{Float, nan, inf, fin, binary64, up, down, unlike, round, of_int, in_float, div}
use lib.Ieee.Fits.{down_pos}
use lib.Ieee.Exact.{HasValue}
use lib.Ieee.Back.{round_whole}
use lib.Ieee.Scale.{round_same}
use Rattle.whole.specs.Whole.{negative, magnitude_of}
use Rattle.amount.specs.Amounts.{largest}
use Rattle.doubles.specs.Doubles.{last_scale}
use Rattle.doubles.specs.Export.{exported}
use Rattle.doubles.proofs.Columns.{few, ten_fits}

-- "the coefficient becomes a double without loss"
pub without_loss : (n : ℤ) → magnitude_of n ≤ largest → HasValue (of_int binary64 n) (negative n) (magnitude_of n) 1
unfolding of_int
without_loss (pos n) h = round_whole binary64 false n (omega (arith, few))
without_loss (negsuc n) h = round_whole binary64 true (suc n) (omega (arith, few))

pub divisor_without_loss : (scale : ℕ) → scale ≤ last_scale → HasValue (of_int binary64 (pos (10 ^ scale))) false (10 ^ scale) 1
unfolding of_int
divisor_without_loss scale h = round_whole binary64 false (10 ^ scale) (omega (arith, ten_fits scale h))

same_sign : (s : Bool) → unlike s false ≡ s
same_sign true = refl
same_sign false = refl

-- a quotient of two whole doubles is what the one rounding makes of the two whole numbers
quotient : (x y : Float) (s : Bool) (n d : ℕ) → 0 < d → HasValue x s n 1 → HasValue y false d 1 → div binary64 x y ≡ round binary64 s n d
unfolding div
quotient nan y s n d some v w = absurd v
quotient (inf t) y s n d some v w = absurd v
quotient (fin t m e) nan s n d some v w = absurd w
quotient (fin t m e) (inf u) s n d some v w = absurd w
quotient (fin t m e) (fin u k g) s n d some v w =
    rw (ne_eqb k 0 not_zero)
    (ap (λ (b : Bool). round binary64 (unlike t b) (m * up e * down g) (k * up g * down e)) w.0
    ∙ ap (λ (b : Bool). round binary64 b (m * up e * down g) (k * up g * down e)) (same_sign t ∙ v.0)
    ∙ round_same binary64 s (m * up e * down g) (k * up g * down e) n d (mul-pos above (down_pos e)) some
    (cross (m * up e) (k * up g) (down e) (down g) v.1 w.1))
  where
    above : 0 < k * up g
    above = omega (arith, w.1, mul-pos some (down_pos g))

    not_zero : k ≡ 0 → ⊥
    not_zero z = omega (arith, above, ap (λ (x : ℕ). x * up g) z)

    cross : (a b p q : ℕ) → a * 1 ≡ n * p → b * 1 ≡ d * q → a * q * d ≡ n * (b * p)
    cross a b p q x y = omega (arith, ap (λ (z : ℕ). z * (q * d)) x, ap (λ (z : ℕ). n * z * p) y)

module _ (n : ℤ) (h : magnitude_of n ≤ largest) where
  -- "divided once": nothing is rounded before the quotient
  pub divided_once : (scale : ℕ) → scale ≤ last_scale → exported n scale ≡ round binary64 (negative n) (magnitude_of n) (10 ^ scale)
  unfolding exported
  divided_once scale l =
      quotient (of_int binary64 n) (of_int binary64 (pos (10 ^ scale))) (negative n) (magnitude_of n) (10 ^ scale)
      (pow-le-pow_right {n = 10} (omega arith) {i = 0} {j = scale} (omega arith)) (without_loss n h) (divisor_without_loss scale l)

  -- "exact at scale 0"
  pub exact_at_scale_0 : HasValue (exported n 0) (negative n) (magnitude_of n) 1
  exact_at_scale_0 =
      subst (λ (x : Float). HasValue x (negative n) (magnitude_of n) 1) (sym (divided_once 0 (omega arith)))
      (round_whole binary64 (negative n) (magnitude_of n) (omega (arith, few)))

-- what the cast of the divisor asks
pub divisor_in : (p : ℕ) → p ≤ 1000 → T (in_float binary64 (pos p))
unfolding in_float
divisor_in p h = le→leb p (2 ^ 53) (omega arith)
