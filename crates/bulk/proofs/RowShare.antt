-- A quotient by a product: x / s is x x (P / s + 1) / P where P is large against x x s, since x x (P / s + 1) x s is above x x P by at most
-- x x s, too little to reach the next multiple. So the shares of sixteen places need one division. Assumes nothing.
use mathlib.Core.Path.{◌≡◌, ap}
use Prim.Native.Nat.{ℕ, ◌+◌, ◌*◌, ◌/◌, ◌%◌, ◌≤◌, ◌<◌}
use native.Mathlib.Nat.{div-add-mod', mod-lt, div-eq_of_lt-le, div-mul-le_self, le-div_iff_mul-le, mul-le-mul_left, mul-le-mul_right}
use native.Mathlib.Omega.{arith}

module _ (P s : ℕ) (some : 1 ≤ s) where
  -- x at any number with quotient q and remainder r, P with k and rest
  between : (x q r k rest : ℕ) → q * s + r ≡ x → r < s → k * s + rest ≡ P → rest < s → x < k → (q * P ≤ x * (k + 1)) × (x * (k + 1) < (q + 1) * P)
  between x q r k rest e b f c h = (
    omega (arith, ap (λ (y : ℕ). y * (k + 1)) e, ap (λ (y : ℕ). q * y) f, mul-le-mul_left {m = rest} {n = s} q (omega arith)),
    omega (arith, ap (λ (y : ℕ). y * k) e, ap (λ (y : ℕ). (q + 1) * y) f, mul-le-mul_right {m = r + 1} {n = s} k (omega arith)),
  )

  pub by_product : (x : ℕ) → (x + 1) * s ≤ P → x * (P / s + 1) / P ≡ x / s
  by_product x h =
      let room : x + 1 ≤ P / s = (le-div_iff_mul-le some).1 h in
      let both = between x (x / s) (x % s) (P / s) (P % s) (div-add-mod' x s) (mod-lt x some) (div-add-mod' P s) (mod-lt P some) (omega arith) in
      div-eq_of_lt-le P both.0 both.1

  -- part of s, times w
  module _ (part w : ℕ) (within : part ≤ s) where
    pub share_is : (part * w + 1) * s ≤ P → part * (P / s + 1) * w / P ≡ part * w / s
    share_is h = let e : part * (P / s + 1) * w ≡ part * w * (P / s + 1) = omega arith in rw e (by_product (part * w) h)

    pub part_within : part * (P / s + 1) ≤ P + s
    part_within = omega (arith, mul-le-mul_right (P / s + 1) within, div-mul-le_self P s)
