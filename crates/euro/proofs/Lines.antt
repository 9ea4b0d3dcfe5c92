-- Document 01, "Two sides of each line", the lines on the euro, and the fourth of its shortcuts: the definitions compute each of them.
-- Assumes nothing.
use mathlib.Core.Path.{◌≡◌, refl}
use Prim.Native.Nat.{ℕ}
use lib.IntN.{pos, ◌*ℤ◌}
use Rattle.refusal.specs.Rows.{gives}
use Rattle.rounding.specs.declared.Rule.TheVariants.{HalfUp}
use Rattle.rounding.specs.Leaf.{rest_of, is_odd, rounded, rounded_magnitude}
use Rattle.currency.specs.declared.Currency.{Currency}
use Rattle.currency.specs.Table.{line_of}
use Rattle.currency.specs.Digits.{not_own_digits}
use Rattle.currency.specs.Names.{EUR, DEM, FRF, IEP, ITL}
use Rattle.amount.specs.declared.Amount.{Amount}
use Rattle.euro.specs.Steps.{to_euro, from_euro, cents, step_decimals}
use Rattle.euro.specs.Conversion.{convert_rows, exchanged, converted, convert_by_said, convert_said}

-- n units of a currency's own digits
abbrev amount_of : Currency → (n : ℕ) → Amount
amount_of c n = record { currency = c; scale = (line_of c).digits; coefficient = pos n }

-- so many units of one currency are so many of another
abbrev Gives : (from : Currency) (n : ℕ) (to : Currency) (m : ℕ) → Type 0
Gives from n to m = convert_said (amount_of from n) to ≡ gives (amount_of to m)

-- 100.00 DEM to EUR: 51.13
pub dem_to_eur : Gives DEM 10000 EUR 5113
unfolding rest_of is_odd rounded rounded_magnitude not_own_digits line_of to_euro from_euro convert_rows exchanged converted convert_by_said convert_said
dem_to_eur = refl

-- 100.00 DEM to FRF: 335.38 (euro step 51.129)
pub dem_to_frf : Gives DEM 10000 FRF 33538
unfolding rest_of is_odd rounded rounded_magnitude not_own_digits line_of to_euro from_euro convert_rows exchanged converted convert_by_said convert_said
dem_to_frf = refl

pub dem_to_frf_step : to_euro (line_of DEM) step_decimals (pos 10000) ≡ pos 51129
unfolding rest_of is_odd rounded rounded_magnitude line_of to_euro from_euro
dem_to_frf_step = refl

-- 1,000,000.00 DEM to EUR: 511,291.88
pub million_dem_to_eur : Gives DEM 100000000 EUR 51129188
unfolding rest_of is_odd rounded rounded_magnitude not_own_digits line_of to_euro from_euro convert_rows exchanged converted convert_by_said convert_said
million_dem_to_eur = refl

-- 1,000,000 ITL: 516.46 EUR
pub million_itl_to_eur : Gives ITL 1000000 EUR 51646
unfolding rest_of is_odd rounded rounded_magnitude not_own_digits line_of to_euro from_euro convert_rows exchanged converted convert_by_said convert_said
million_itl_to_eur = refl

-- 0.02 EUR to IEP: 0.02; back: 0.03
pub eur_to_iep : Gives EUR 2 IEP 2
unfolding rest_of is_odd rounded rounded_magnitude not_own_digits line_of to_euro from_euro convert_rows exchanged converted convert_by_said convert_said
eur_to_iep = refl

pub iep_to_eur : Gives IEP 2 EUR 3
unfolding rest_of is_odd rounded rounded_magnitude not_own_digits line_of to_euro from_euro convert_rows exchanged converted convert_by_said convert_said
iep_to_eur = refl

-- "A euro step of two decimals, or none: 100.00 DEM would give 335.39 FRF"
pub step_of_two_decimals : from_euro (line_of FRF) cents (to_euro (line_of DEM) cents (pos 10000)) ≡ pos 33539
unfolding rest_of is_odd rounded rounded_magnitude line_of to_euro from_euro
step_of_two_decimals = refl

pub no_step : rounded HalfUp (pos 10000 *ℤ pos (line_of FRF).figures) (line_of DEM).figures ≡ pos 33539
unfolding rest_of is_odd rounded rounded_magnitude line_of to_euro from_euro
no_step = refl

-- "A six-figure inverse rate 0.511292 would give 511,292.00 for the million"
pub inverse_rate : rounded HalfUp (pos 100000000 *ℤ pos 511292) 1000000 ≡ pos 51129200
unfolding rest_of is_odd rounded rounded_magnitude
inverse_rate = refl
