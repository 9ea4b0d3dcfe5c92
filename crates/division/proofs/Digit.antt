-- One digit g of a factor in a base B, over the rest R before it: R x B + r x g by d needs no number above 4 x B x B. The top is divided by
-- d's top and one more, which takes away too little and never too much. Assumes nothing.
use mathlib.Core.Path.{◌≡◌, ap}
use Prim.Native.Nat.{ℕ, ◌+◌, ◌-◌, ◌*◌, ◌/◌, ◌%◌, ◌<◌, ◌≤◌}
use native.Mathlib.Nat.{div-add-mod', mod-lt, mul-le-mul, mul-le-mul_right, lt_of_mul-lt-mul_right}
use native.Mathlib.Omega.{arith}

-- the program's numbers
unfoldable pub low : (B r g : ℕ) → ℕ
low B r g = r % B * g

unfoldable pub top : (B R r g : ℕ) → ℕ
top B R r g = R + r / B * g + low B r g / B

unfoldable pub taken : (B d R r g : ℕ) → ℕ
taken B d R r g = top B R r g / (d / B + 1)

unfoldable pub left : (B d R r g : ℕ) → ℕ
left B d R r g = taken B d R r g * (B - d % B) + top B R r g % (d / B + 1) * B + low B r g % B

module _ (B d : ℕ) (some : 0 < B) (h : 0 < d) (R r g : ℕ) where
  top_is : top B R r g * B + low B r g % B ≡ R * B + r * g
  unfolding low top
  top_is =
      let l : low B r g / B * B + low B r g % B ≡ low B r g = div-add-mod' (low B r g) B in
      let rr : (r / B * B + r % B) * g ≡ r * g = ap (λ (x : ℕ). x * g) (div-add-mod' r B) in
      omega arith

  pub digit : taken B d R r g * d + left B d R r g ≡ R * B + r * g
  unfolding taken left
  digit =
      let t = taken B d R r g in
      let u = top B R r g in
      let dd : t * (d / B * B + d % B) ≡ t * d = ap (λ (x : ℕ). t * x) (div-add-mod' d B) in
      let tt : (t * (d / B + 1) + u % (d / B + 1)) * B ≡ u * B = ap (λ (x : ℕ). x * B) (div-add-mod' u (d / B + 1)) in
      let rest : t * (B - d % B) + t * (d % B) ≡ t * B =
      (let x : B - d % B + d % B ≡ B = omega (arith, mod-lt d some) in omega (arith, ap (λ (y : ℕ). t * y) x)) in
      omega (arith, top_is)

  -- where the rests are below d and the digit below B
  module _ (less : R < d) (below : r < d) (small : g < B) (fits : d ≤ B * B) where
    pub top_small : top B R r g < d + d
    top_small =
        let p : r * g ≤ d * B = mul-le-mul (omega arith) (omega arith) in
        let q : (R + 1) * B ≤ d * B = mul-le-mul_right B (omega arith) in
        lt_of_mul-lt-mul_right B (omega (arith, top_is))

    pub taken_small : taken B d R r g < B + B
    unfolding taken
    taken_small =
        let e = d / B + 1 in
        let u = top B R r g in
        let t = taken B d R r g in
        let parts : t * e + u % e ≡ u = div-add-mod' u e in
        let over : d < e * B = omega (arith, div-add-mod' d B, mod-lt d some) in
        lt_of_mul-lt-mul_right e (omega (arith, top_small))

    pub left_small : left B d R r g < 4 * (B * B)
    unfolding left
    left_small =
        let e = d / B + 1 in
        let u = top B R r g in
        let t = taken B d R r g in
        let first : t * (B - d % B) ≤ (B + B) * B = mul-le-mul (omega (arith, taken_small)) (omega arith) in
        let whole : d / B * B ≤ B * B = omega (arith, div-add-mod' d B) in
        let second : u % e * B ≤ d / B * B = mul-le-mul_right B (omega (arith, mod-lt u {m = e} (omega arith))) in
        let third : low B r g % B < B = mod-lt (low B r g) some in
        let one : 1 * B ≤ B * B = mul-le-mul_right B some in
        omega arith
