-- Document 01's lines on an interest, and document 02's on the bases, computed from the definitions. Assumes nothing.
use mathlib.Core.Path.{◌≡◌, refl}
use Prim.Native.Nat.{ℕ}
use lib.IntN.{pos}
use Rattle.refusal.specs.Rows.{Said, gives, refuses}
use Rattle.rounding.specs.Modes.{bad_mode, rule_of}
use Rattle.rounding.specs.Leaf.{rest_of, is_odd, rounded_magnitude, rounded}
use Rattle.amount.specs.declared.Amount.{Amount}
use Rattle.amount.specs.Amounts.{largest}
use Rattle.calendar.specs.declared.Date.{Date}
use Rattle.calendar.specs.Calendar.{leap, month_length, exists, days_of_months, days_of_years, day_number}
use Rattle.calendar.specs.DayCount.{actual, difference}
use Rattle.calendar.specs.DaysSaid.{days_rows}
use Rattle.calendar.proofs.Lines.{february, march, leap_day}
use Rattle.interest.specs.Interest.{interest_rows, interest_of, interest_said}

-- so many cents of a currency
abbrev cents_of : (currency cents : ℕ) → Amount
cents_of currency cents = record { currency = record { 0 = currency }; scale = 2; coefficient = pos cents }

-- 1000.00 EUR at 500 points, HALF_UP
abbrev on_thousand : ℕ → (start end : Date) → Said Amount
on_thousand basis start end = interest_said (cents_of 0 100000) 500 basis start end 4

-- "basis 0 .. gives 4.31; basis 1 .. 4.25"; document 02, Ask 2: "gives 4.58 on basis 2, and .. 4.44 on basis 3"
pub on_thousand_lem : (on_thousand 0 february march ≡ gives (cents_of 0 431))
    × (on_thousand 1 february march ≡ gives (cents_of 0 425))
    × (on_thousand 2 february march ≡ gives (cents_of 0 458))
    × (on_thousand 3 february march ≡ gives (cents_of 0 444))
unfolding leap month_length exists days_of_months days_of_years day_number actual difference days_rows bad_mode rule_of rest_of is_odd rounded_magnitude rounded interest_rows interest_of interest_said
on_thousand_lem = (refl, refl, refl, refl)

-- both dates are bad: the first is blamed; "Mode 7 with a bad currency: refusal 1"
pub interest_refused : (on_thousand 0 (leap_day 1900) (leap_day 1900) ≡ refuses 7 1) × (interest_said (cents_of 21 100000) 500 0 february march 7 ≡ refuses 1 0)
unfolding leap month_length exists days_of_months days_of_years day_number actual difference days_rows bad_mode rule_of rest_of is_odd rounded_magnitude rounded interest_rows interest_of interest_said
interest_refused = (refl, refl)

-- the table's row 13 at an interest: L at 10,000 points over 366 days, by a year of 360
pub interest_over_limit : interest_said (cents_of 0 largest) 10000 0 (record { year = 2023; month = 1; day = 1 }) (record { year = 2024; month = 1; day = 2 }) 4 ≡ refuses 13 0
unfolding leap month_length exists days_of_months days_of_years day_number actual difference days_rows bad_mode rule_of rest_of is_odd rounded_magnitude rounded interest_rows interest_of interest_said
interest_over_limit = refl
