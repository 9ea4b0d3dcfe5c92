-- The days of the years from 1900 on in closed form: 365 for each year, and one more for each leap year, which three quotients of
-- the last year count. A quotient grows by one at each multiple. Assumes nothing.
use mathlib.Core.Path.{◌≡◌, refl}
use mathlib.Core.Bool.{Bool, true, false, cond}
use Prim.Native.Nat.{ℕ, zero, suc, ◌+◌, ◌-◌, ◌*◌, ◌/◌, ◌%◌, ◌≤◌, ◌<◌}
use native.Mathlib.Decide.{ℕ_discrete}
use native.Mathlib.Nat.{add-suc, mod-lt, div-add-mod', div-lt_iff_lt-mul, le-div_iff_mul-le}
use native.Mathlib.Omega.{arith}
use lib.Dec.{eqb}
use borrow.Author.Tests.{eq-eqb, ne_eqb, eqb-true}
use Rattle.calendar.specs.Calendar.{leap, days_of_months, days_of_years}
use Rattle.calendar.proofs.Numbers.{grows}
use Rattle.calendar.proofs.Months.{year_length, year_within}

abbrev one : Bool → ℕ
one b = cond b 1 0

-- the quotient of the next number grows by one at a multiple of the divisor
module _ (k y : ℕ) (some : 0 < k) where
  at_multiple : suc y % k ≡ 0 → suc y / k ≡ y / k + 1
  at_multiple e =
      let next = div-add-mod' (suc y) k in
      let last = div-add-mod' y k in
      let rest = mod-lt y some in
      let low : y / k < suc y / k = (div-lt_iff_lt-mul some).1 (omega arith) in
      let high : suc y / k < y / k + 2 = (div-lt_iff_lt-mul some).1 (omega arith) in omega arith

  between : (suc y % k ≡ 0 → ⊥) → suc y / k ≡ y / k
  between f =
      let next = div-add-mod' (suc y) k in
      let last = div-add-mod' y k in
      let low : y / k ≤ suc y / k = (le-div_iff_mul-le some).1 (omega arith) in
      let high : suc y / k ≤ y / k = (le-div_iff_mul-le some).1 (omega arith) in omega arith

  next_quotient : suc y / k ≡ y / k + one (eqb (suc y % k) 0)
  next_quotient = at (ℕ_discrete (suc y % k) 0)
    where
      at : Dec (suc y % k ≡ 0) → suc y / k ≡ y / k + one (eqb (suc y % k) 0)
      at (yes e) = rw (eq-eqb _ _ e) (at_multiple e)
      at (no f) = rw (ne_eqb _ _ f) (omega (arith, between f))

-- a multiple of 400 is one of 100, and that one of 4: of the three quotients those by 4 and by 400 count a leap year, that by 100 not
leap_counts : (y : ℕ) → one (eqb (y % 4) 0) + one (eqb (y % 400) 0) ≡ one (eqb (y % 100) 0) + one (leap y)
unfolding leap
leap_counts y =
    at (eqb (y % 400) 0) (eqb (y % 100) 0) (eqb (y % 4) 0) (λ e. eq-eqb (y % 100) 0 (omega (arith, eqb-true (y % 400) 0 e)))
    (λ e. eq-eqb (y % 4) 0 (omega (arith, eqb-true (y % 100) 0 e)))
  where
    at : (a b c : Bool) → (a ≡ true → b ≡ true) → (b ≡ true → c ≡ true)
        → one c + one a ≡ one b + one (cond a true (cond b false c))
    at true b c hundred four = rw (hundred refl, four (hundred refl))
    at false true c hundred four = rw (four refl)
    at false false c hundred four = omega arith

-- over plain numbers: the quotients p, q and r by 4, 400 and 100 grow to f, g and h more
grown : (days n p q r f g h leap length : ℕ) → length ≡ 365 + leap → f + g ≡ h + leap → days + 460 + r ≡ 365 * n + p + q
    → days + length + 460 + (r + h) ≡ 365 * suc n + (p + f) + (q + g)
grown days n p q r f g h leap length a b c = omega arith

closed : (n : ℕ) → days_of_years n + 460 + (1899 + n) / 100 ≡ 365 * n + (1899 + n) / 4 + (1899 + n) / 400
unfolding days_of_years
closed zero = refl
closed (suc n) =
    let year : 1900 + n ≡ suc (1899 + n) = omega arith in
    rw (
      year,
      add-suc 1899 n,
      next_quotient 4 (1899 + n) (omega arith),
      next_quotient 100 (1899 + n) (omega arith),
      next_quotient 400 (1899 + n) (omega arith),
    )
    (grown _ n _ _ _ _ _ _ _ _ (year_length (suc (1899 + n))) (leap_counts (suc (1899 + n))) (closed n))

-- and solved for the days
less : (days n p q r : ℕ) → r ≤ p → days + 460 + r ≡ 365 * n + p + q → 365 * n + p - r + q - 460 ≡ days
less days n p q r h e = omega arith

-- the closed form at a year
pub days_of_years_lem : (year : ℕ) → 1900 ≤ year
    → 365 * (year - 1 - 1899) + (year - 1) / 4 - (year - 1) / 100 + (year - 1) / 400 - 460 ≡ days_of_years (year - 1900)
days_of_years_lem year h =
    let last : 1899 + (year - 1900) ≡ year - 1 = omega arith in
    let years : year - 1 - 1899 ≡ year - 1900 = omega arith in
    rw years (less _ (year - 1900) _ _ _ (omega arith) (rw last at (closed (year - 1900))))

years_step : (n : ℕ) → days_of_years n + 365 ≤ days_of_years (suc n)
unfolding days_of_years
years_step n = omega (arith, year_length (1900 + n))

pub years_rise : (a b : ℕ) → a ≤ b → days_of_years a ≤ days_of_years b
years_rise = grows days_of_years (λ n. omega (arith, years_step n))

-- a year adds its months
pub one_year : (year : ℕ) → 1900 ≤ year → days_of_years (year + 1 - 1900) ≡ days_of_years (year - 1900) + days_of_months year 12
unfolding days_of_years
one_year year h =
    let next : year + 1 - 1900 ≡ suc (year - 1900) = omega arith in
    let same : 1900 + (year - 1900) ≡ year = omega arith in rw (next, same)

pub years_within : (n : ℕ) → days_of_years n ≤ 366 * n
unfolding days_of_years
years_within zero = omega arith
years_within (suc n) = omega (arith, year_within (1900 + n), years_within n)
