-- A step by sign and magnitude, as a program takes it: the leaf gives the step's magnitude, or one more than 10^18 where it is over that, and the
-- sign is the amount's. Every line's factors are within the leaf's limits. Assumes nothing.
use mathlib.Core.Path.{◌≡◌, sym, ◌∙◌, ap, ap₂}
use mathlib.Core.Bool.{Bool, false}
use Prim.Native.Nat.{ℕ, ◌+◌, ◌*◌, ◌≤◌, ◌<◌, ◌^◌}
use native.Mathlib.Nat.{mul-le-mul, mul-pos, pow-le-pow_right, one-le-pow}
use native.Mathlib.Omega.{arith}
use lib.IntN.{ℤ, pos, ◌*ℤ◌}
use Rattle.whole.specs.Whole.{magnitude_of, signed_of}
use Rattle.whole.proofs.Laws.{magnitude_signed}
use Rattle.rounding.specs.declared.Rule.TheVariants.{HalfUp}
use Rattle.rounding.specs.Leaf.{rounded, rounded_magnitude}
use Rattle.rounding.specs.Product.{capped, rounded_product}
use Rattle.rounding.proofs.Capped.{product_within}
use Rattle.rounding.proofs.Factors.{signed_rounds}
use Rattle.rounding.proofs.HalfUp.{either_sign}
use Rattle.rounding.proofs.Order.{signed_times}
use Rattle.currency.specs.declared.Line.{Line}
use Rattle.currency.specs.Tens.{power_of_ten}
use Rattle.currency.proofs.Tables.{Good, power_of_ten_lem}
use Rattle.amount.specs.Amounts.{largest}
use Rattle.euro.specs.Steps.{to_euro, from_euro, most_decimals}
use Rattle.euro.specs.declared.conversion.Rate.{Rate}
use Rattle.euro.specs.Through.{rate_at}

module _ (sign : Bool) (m f d : ℕ) where
  -- so does a multiple of it
  pub step : rounded HalfUp (signed_of sign m *ℤ pos f) d ≡ signed_of sign (rounded_magnitude HalfUp sign (m * f) d)
  step = ap (λ (z : ℤ). rounded HalfUp z d) (signed_times sign m f) ∙ signed_rounds HalfUp sign (m * f) d

  magnitude : magnitude_of (rounded HalfUp (signed_of sign m *ℤ pos f) d) ≡ rounded_magnitude HalfUp sign (m * f) d
  magnitude = ap magnitude_of step ∙ magnitude_signed sign (rounded_magnitude HalfUp sign (m * f) d)

  -- it keeps the sign, and the leaf gives its magnitude
  keeps : signed_of sign (magnitude_of (rounded HalfUp (signed_of sign m *ℤ pos f) d)) ≡ rounded HalfUp (signed_of sign m *ℤ pos f) d
  keeps = ap (signed_of sign) magnitude ∙ sym step

  leaf : m ≤ largest → f ≤ 10 ^ 18 → 0 < d → d ≤ 10 ^ 18
      → rounded_product HalfUp sign m f d ≡ capped (magnitude_of (rounded HalfUp (signed_of sign m *ℤ pos f) d))
  leaf small factor some divisor = product_within HalfUp sign m f d (omega arith) factor some divisor ∙ ap capped (sym magnitude)

module _ (l : Line) (good : Good l) where
  -- K x 10^digits, as a program has it and within the leaf's limits
  unit_is : l.figures * power_of_ten l.digits ≡ l.figures * 10 ^ l.digits
  unit_is = ap (λ (x : ℕ). l.figures * x) (power_of_ten_lem l.digits (omega (arith, good.few_digits)))

  unit_some : 0 < l.figures * 10 ^ l.digits
  unit_some = mul-pos (omega (arith, good.least)) (one-le-pow l.digits 10 (omega arith))

  unit_most : l.figures * 10 ^ l.digits ≤ 10 ^ 18
  unit_most = omega (arith, mul-le-mul good.most (pow-le-pow_right {n = 10} (omega arith) good.few_digits))

  pub unit_fits : l.figures * power_of_ten l.digits ≤ 10 ^ 18
  unit_fits = rw unit_is unit_most

module _ (l : Line) (good : Good l) (decimals : ℕ) (few : decimals ≤ most_decimals) where
  -- 10^(k + decimals)
  parts_is : power_of_ten (l.places + decimals) ≡ 10 ^ (l.places + decimals)
  parts_is = power_of_ten_lem (l.places + decimals) (omega (arith, good.few_places))

  parts_some : 0 < 10 ^ (l.places + decimals)
  parts_some = one-le-pow (l.places + decimals) 10 (omega arith)

  parts_most : 10 ^ (l.places + decimals) ≤ 10 ^ 18
  parts_most =
      let few_tens : l.places + decimals ≤ 12 = omega (arith, good.few_places) in
      omega (arith, pow-le-pow_right {n = 10} (omega arith) few_tens)

  -- the rate, as a program has it, and each step by it
  pub rate_is : ◌≡◌ {A = Rate} (record { unit = l.figures * power_of_ten l.digits; parts = power_of_ten (l.places + decimals) }) (rate_at l decimals)
  rate_is = ap₂ (λ (x y : ℕ). record { unit = x; parts = y }) (unit_is l good) parts_is

  module _ (sign : Bool) (m : ℕ) (small : m ≤ largest) where
    pub to_euro_is : rounded_product HalfUp false m (rate_at l decimals).parts (rate_at l decimals).unit ≡ capped (magnitude_of (to_euro l decimals (signed_of sign m)))
    unfolding to_euro
    to_euro_is =
        either_sign sign m (10 ^ (l.places + decimals)) (l.figures * 10 ^ l.digits)
        ∙ leaf sign m (10 ^ (l.places + decimals)) (l.figures * 10 ^ l.digits) small parts_most (unit_some l good) (unit_most l good)

    pub from_euro_is : rounded_product HalfUp false m (rate_at l decimals).unit (rate_at l decimals).parts ≡ capped (magnitude_of (from_euro l decimals (signed_of sign m)))
    unfolding from_euro
    from_euro_is =
        either_sign sign m (l.figures * 10 ^ l.digits) (10 ^ (l.places + decimals))
        ∙ leaf sign m (l.figures * 10 ^ l.digits) (10 ^ (l.places + decimals)) small (unit_most l good) parts_some parts_most

-- each step keeps the sign
module _ (l : Line) (decimals : ℕ) (sign : Bool) (m : ℕ) where
  pub to_euro_sign : signed_of sign (magnitude_of (to_euro l decimals (signed_of sign m))) ≡ to_euro l decimals (signed_of sign m)
  unfolding to_euro
  to_euro_sign = keeps sign m (10 ^ (l.places + decimals)) (l.figures * 10 ^ l.digits)

  pub from_euro_sign : signed_of sign (magnitude_of (from_euro l decimals (signed_of sign m))) ≡ from_euro l decimals (signed_of sign m)
  unfolding from_euro
  from_euro_sign = keeps sign m (l.figures * 10 ^ l.digits) (10 ^ (l.places + decimals))
