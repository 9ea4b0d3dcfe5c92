-- Document 01, "Interest over days": "Dates are Gregorian: a leap year is divisible by 4, and not by 100 unless by 400."
-- Cited by the promises on dates. Assumes nothing.
use Rattle.std.specs.Prelude.{Bool, true, false, cond, ◌&&◌, [], ◌∷◌, ℕ, zero, suc, ◌+◌, ◌-◌, ◌%◌, leb, eqb, get_or}

unfoldable pub leap : ℕ → Bool
leap year = cond (eqb (year % 400) 0) true (cond (eqb (year % 100) 0) false (eqb (year % 4) 0))

-- the days of a month, 1 to 12
unfoldable pub month_length : (year month : ℕ) → ℕ
month_length year month =
    get_or (0 ∷ 31 ∷ cond (leap year) 29 28 ∷ 31 ∷ 30 ∷ 31 ∷ 30 ∷ 31 ∷ 31 ∷ 30 ∷ 31 ∷ 30 ∷ 31 ∷ []) month 0

-- the table's row 7, "a date doesn't exist or its year isn't 1900 to 2199"
unfoldable pub exists : (year month day : ℕ) → Bool
exists year month day =
    leb 1900 year && leb year 2199 && leb 1 month && leb month 12 && leb 1 day && leb day (month_length year month)

-- the days of the first so many months of a year
unfoldable pub days_of_months : (year months : ℕ) → ℕ
days_of_months year zero = 0
days_of_months year (suc m) = days_of_months year m + month_length year (suc m)

-- the days of so many years from 1900 on
unfoldable pub days_of_years : ℕ → ℕ
days_of_years zero = 0
days_of_years (suc n) = days_of_years n + days_of_months (1900 + n) 12

-- a date's place among the days from 1900-01-01 (which is 1) on
unfoldable pub day_number : (year month day : ℕ) → ℕ
day_number year month day = days_of_years (year - 1900) + days_of_months year (month - 1) + day
