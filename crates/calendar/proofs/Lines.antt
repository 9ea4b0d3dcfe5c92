-- Document 01's lines on dates and day counts, and document 02's on the bases, computed from the definitions. Assumes nothing.
use mathlib.Core.Path.{◌≡◌, refl}
use mathlib.Core.Bool.{true, false}
use Prim.Native.Nat.{ℕ}
use Rattle.refusal.specs.Rows.{gives, refuses}
use Rattle.calendar.specs.declared.Date.{Date}
use Rattle.calendar.specs.Calendar.{leap, month_length, exists, days_of_months, days_of_years, day_number}
use Rattle.calendar.specs.DayCount.{actual, difference}
use Rattle.calendar.specs.DaysSaid.{date_exists, days_rows, days_said}

abbrev pub february : Date
february = record { year = 2023; month = 2; day = 28 }

abbrev pub march : Date
march = record { year = 2023; month = 3; day = 31 }

-- "2023-02-28 to 2023-03-31 ..: basis 0 counts 31 ..; basis 1 counts 31"; document 02, Ask 2: "counts 33 days .. on basis 2, and 32 days
-- .. on basis 3", "refusal 6 is for a basis over 3"
pub from_february : (days_said 0 february march ≡ gives 31)
    × (days_said 1 february march ≡ gives 31)
    × (days_said 2 february march ≡ gives 33)
    × (days_said 3 february march ≡ gives 32)
    × (days_said 4 february march ≡ refuses 6 0)
unfolding leap month_length exists days_of_months days_of_years day_number actual difference days_rows days_said
from_february = (refl, refl, refl, refl, refl)

abbrev pub leap_day : ℕ → Date
leap_day year = record { year = year; month = 2; day = 29 }

-- "29 February 1900: refusal 7", and the first date is blamed where both are bad
pub leap_days : (date_exists (leap_day 1900) ≡ false) × (date_exists (leap_day 2000) ≡ true) × (days_said 0 (leap_day 1900) (leap_day 1900) ≡ refuses 7 1)
unfolding leap month_length exists days_of_months days_of_years day_number actual difference days_rows days_said
leap_days = (refl, refl, refl)
