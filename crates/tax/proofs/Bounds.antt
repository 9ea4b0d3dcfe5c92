-- The rounded magnitude of n / d is at most k wherever n is at most k x d, since it rises only where there is a rest. So a tax is at
-- most its amount, and from gross at most half of it, rounded up; and it has the amount's sign or is 0. Assumes nothing.
use mathlib.Core.Path.{◌≡◌, refl}
use mathlib.Core.Bool.{Bool, true, false}
use mathlib.Core.Logic.{◌⊎◌, inl, inr}
use Prim.Native.Nat.{ℕ, zero, suc, ◌+◌, ◌*◌, ◌/◌, ◌%◌, ◌<◌, ◌≤◌}
use native.Mathlib.Nat.{div-add-mod', le_of_mul-le-mul_right, lt_of_mul-lt-mul_right, mul-le-mul_left, mul-le-mul_right}
use native.Mathlib.Omega.{arith}
use borrow.Author.Tests.{le-ltb}
use lib.IntN.{ℤ, pos, ◌*ℤ◌}
use Rattle.whole.specs.Whole.{negative, magnitude_of, signed_of}
use Rattle.whole.proofs.Laws.{magnitude_signed, negative_signed, signed_zero_lem}
use Rattle.rounding.specs.declared.Rule.{Rule}
use Rattle.rounding.specs.Modes.{rises_by}
use Rattle.rounding.specs.Leaf.{rest_of, is_odd, raised, rounded, rounded_magnitude}
use Rattle.rounding.specs.Product.{rounded_product}
use Rattle.rounding.proofs.Capped.{product_is}
use Rattle.rounding.proofs.Bounds.{at_divisor, rise_has_rest}
use Rattle.rounding.proofs.Value.{by_magnitude}
use Rattle.amount.specs.declared.Amount.{Amount}
use Rattle.amount.specs.Amounts.{largest, over_l}
use Rattle.tax.specs.Tax.{million, from_net, from_gross}

module _ (rule : Rule) (sign : Bool) where
  pub covered : (k n d : ℕ) → 0 < d → n ≤ k * d → rounded_magnitude rule sign n d ≤ k
  covered k n d some h = rw (at_divisor rule sign n d some) (step (rises_by rule sign (is_odd (n / d)) (rest_of (n % d) d)) refl)
    where
      step : (b : Bool) → rises_by rule sign (is_odd (n / d)) (rest_of (n % d) d) ≡ b → raised b (n / d) ≤ k
      step true e =
          let rest = rise_has_rest rule sign (is_odd (n / d)) (n % d) d e in
          let less : n / d * d < k * d = omega (arith, div-add-mod' n d) in
          let below : n / d < k = lt_of_mul-lt-mul_right d less in omega arith
      step false e = let most : n / d * d ≤ k * d = omega (arith, div-add-mod' n d) in le_of_mul-le-mul_right most some

  -- a rate of at most 1 takes at most the amount
  pub at_most_all : (m r d : ℕ) → 0 < d → r ≤ d → rounded_magnitude rule sign (m * r) d ≤ m
  at_most_all m r d some h = covered m (m * r) d some (mul-le-mul_left m h)

  -- k is the half, rounded up
  at_most_half : (k m r : ℕ) → m ≤ 2 * k → r ≤ million → rounded_magnitude rule sign (m * r) (million + r) ≤ k
  at_most_half k m r least h =
      let twice : m * (r + r) ≤ m * (million + r) = mul-le-mul_left m (omega arith) in
      let doubled : m * (million + r) ≤ 2 * k * (million + r) = mul-le-mul_right (million + r) least in
      covered k (m * r) (million + r) (omega arith) (omega arith)

-- what the leaf gives for a tax that is at most its amount, so that no cap is met
pub leaf : (rule : Rule) (sign : Bool) (m r d : ℕ) → m ≤ largest → 0 < d → d ≤ 2 * million → r ≤ d
    → rounded_product rule sign m r d ≡ rounded_magnitude rule sign (m * r) d
leaf rule sign m r d small some few covers =
    product_is rule sign m r d (omega arith) (omega arith) some (omega arith) (omega (arith, at_most_all rule sign m r d some covers))

-- the magnitude of a tax
tax_magnitude : (rule : Rule) (n : ℤ) (r d : ℕ)
    → magnitude_of (rounded rule (n *ℤ pos r) d) ≡ rounded_magnitude rule (negative n) (magnitude_of n * r) d
tax_magnitude rule n r d = rw (by_magnitude rule n r d) (magnitude_signed (negative n) (rounded_magnitude rule (negative n) (magnitude_of n * r) d))

tax_sign : (rule : Rule) (n : ℤ) (r d : ℕ) → (rounded rule (n *ℤ pos r) d ≡ pos 0) ⊎ (negative (rounded rule (n *ℤ pos r) d) ≡ negative n)
tax_sign rule n r d = rw (by_magnitude rule n r d) (at (negative n) (rounded_magnitude rule (negative n) (magnitude_of n * r) d))
  where
    at : (sign : Bool) (t : ℕ) → (signed_of sign t ≡ pos 0) ⊎ (negative (signed_of sign t) ≡ sign)
    at sign zero = inl (signed_zero_lem sign)
    at sign (suc t) = inr (negative_signed sign (suc t) (omega arith))

module _ (rule : Rule) (a : Amount) (r : ℕ) where
  pub net_tax_sign : ((from_net rule a r).tax.coefficient ≡ pos 0) ⊎ (negative (from_net rule a r).tax.coefficient ≡ negative a.coefficient)
  unfolding from_net
  net_tax_sign = tax_sign rule a.coefficient r million

  pub gross_tax_sign : ((from_gross rule a r).tax.coefficient ≡ pos 0) ⊎ (negative (from_gross rule a r).tax.coefficient ≡ negative a.coefficient)
  unfolding from_gross
  gross_tax_sign = tax_sign rule a.coefficient r (million + r)

  pub net_tax_at_most : r ≤ million → magnitude_of (from_net rule a r).tax.coefficient ≤ magnitude_of a.coefficient
  unfolding from_net
  net_tax_at_most h =
      rw (tax_magnitude rule a.coefficient r million)
      (at_most_all rule (negative a.coefficient) (magnitude_of a.coefficient) r million (omega arith) h)

  -- so row 13 doesn't hold for it
  pub net_tax_within : r ≤ million → magnitude_of a.coefficient ≤ largest → over_l (magnitude_of (from_net rule a r).tax.coefficient) ≡ false
  net_tax_within h m = le-ltb largest (magnitude_of (from_net rule a r).tax.coefficient) (omega (arith, net_tax_at_most h))

  pub gross_tax_at_most_half : r ≤ million → 2 * magnitude_of (from_gross rule a r).tax.coefficient ≤ magnitude_of a.coefficient + 1
  unfolding from_gross
  gross_tax_at_most_half h =
      let m = magnitude_of a.coefficient in
      rw (tax_magnitude rule a.coefficient r (million + r))
      (omega (arith, at_most_half rule (negative a.coefficient) ((m + 1) / 2) m r (omega arith) h))
