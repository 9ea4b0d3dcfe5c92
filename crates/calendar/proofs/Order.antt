-- The day numbers of existing dates stand in the calendar's order, so a day number belongs to one date alone: the days of a month end
-- before those of the next begin, and the days of a year before those of the next. Assumes nothing.
use mathlib.Core.Path.{◌≡◌, sym, ap}
use mathlib.Core.Bool.{true}
use mathlib.Core.Logic.{◌↔◌}
use Prim.Native.Nat.{◌+◌, ◌-◌, ◌*◌, ◌≤◌, ◌<◌}
use native.Mathlib.Decide.{dec_lt}
use native.Mathlib.Omega.{arith}
use Rattle.calendar.specs.declared.Date.{Date}
use Rattle.calendar.specs.Calendar.{days_of_months, days_of_years, day_number}
use Rattle.calendar.specs.CalendarOrder.{Earlier, by_year, by_month, by_day}
use Rattle.calendar.specs.DayCount.{day_of}
use Rattle.calendar.specs.DaysSaid.{date_exists}
use Rattle.calendar.proofs.Existing.{OnCalendar, on_calendar, until}
use Rattle.calendar.proofs.Months.{one_month, months_rise}
use Rattle.calendar.proofs.Years.{one_year, years_rise, years_within}

-- a date of the calendar from 1900 on
abbrev pub Dated : Date → Type 0
Dated d = OnCalendar d.year d.month d.day

pub dated : (d : Date) → date_exists d ≡ true → Dated d
dated d e = on_calendar d.year d.month d.day e

-- the days of a month and of a year hold the date's
in_month : (d : Date) → Dated d → days_of_months d.year (d.month - 1) + d.day ≤ days_of_months d.year d.month
in_month d h = omega (arith, one_month d.year d.month h.month_from)

in_year : (d : Date) → Dated d → day_of d ≤ days_of_years (d.year + 1 - 1900)
unfolding day_number
in_year d h =
    omega (arith, in_month d h, months_rise d.year d.month 12 h.month_to, one_year d.year h.since)

pub number_within : (d : Date) → date_exists d ≡ true → day_of d ≤ 366 * 300
number_within d e =
    omega (arith, in_year d (dated d e), years_within (d.year + 1 - 1900), until d.year d.month d.day e)

-- two dates of the same year, month and day are the same
pub same_date : (d e : Date) → d.year ≡ e.year → d.month ≡ e.month → d.day ≡ e.day → d ≡ e
same_date d e y m n = λ i. record { year = y i; month = m i; day = n i }

-- two dates are the same, or one is earlier
pub data Compared (d e : Date) : Type 0 where
  earlier : Earlier d e → Compared d e
  same : d ≡ e → Compared d e
  later : Earlier e d → Compared d e

pub compared : (d e : Date) → Compared d e
compared d e = years (dec_lt d.year e.year) (dec_lt e.year d.year)
  where
    days : d.year ≡ e.year → d.month ≡ e.month → Dec (d.day < e.day) → Dec (e.day < d.day) → Compared d e
    days y m (yes h) b = earlier (by_day y m h)
    days y m (no f) (yes h) = later (by_day (sym y) (sym m) h)
    days y m (no f) (no g) = same (same_date d e y m (omega arith))

    months : d.year ≡ e.year → Dec (d.month < e.month) → Dec (e.month < d.month) → Compared d e
    months y (yes h) b = earlier (by_month y h)
    months y (no f) (yes h) = later (by_month (sym y) h)
    months y (no f) (no g) = days y (omega arith) (dec_lt d.day e.day) (dec_lt e.day d.day)

    years : Dec (d.year < e.year) → Dec (e.year < d.year) → Compared d e
    years (yes h) b = earlier (by_year h)
    years (no f) (yes h) = later (by_year h)
    years (no f) (no g) = months (omega arith) (dec_lt d.month e.month) (dec_lt e.month d.month)

pub earlier_less : (d e : Date) → Dated d → Dated e → Earlier d e → day_of d < day_of e
unfolding day_number
earlier_less d e first second (by_year h) =
    omega (arith, in_year d first, years_rise (d.year + 1 - 1900) (e.year - 1900) (omega arith), second.day_from)
earlier_less d e first second (by_month y h) =
    let months : days_of_months d.year d.month ≤ days_of_months e.year (e.month - 1) =
    rw y (months_rise e.year d.month (e.month - 1) (omega arith)) in
    let years : days_of_years (d.year - 1900) ≡ days_of_years (e.year - 1900) = rw y in
    omega (arith, in_month d first, second.day_from)
earlier_less d e first second (by_day y m h) = rw (y, m) (omega arith)

module _ (d e : Date) (first : Dated d) (second : Dated e) where
  less_earlier : day_of d < day_of e → Earlier d e
  less_earlier h = at (compared d e)
    where
      at : Compared d e → Earlier d e
      at (earlier b) = b
      at (same s) = absurd (omega (arith, ap day_of s))
      at (later b) = absurd (omega (arith, earlier_less e d second first b))

  pub only_date : day_of d ≡ day_of e → d ≡ e
  only_date h = at (compared d e)
    where
      at : Compared d e → d ≡ e
      at (earlier b) = absurd (omega (arith, earlier_less d e first second b))
      at (same s) = s
      at (later b) = absurd (omega (arith, earlier_less e d second first b))

module _ (d e : Date) (first : date_exists d ≡ true) (second : date_exists e ≡ true) where
  -- the order of the day numbers is the calendar's
  pub day_order : (day_of d < day_of e) ↔ Earlier d e
  day_order = (less_earlier d e (dated d first) (dated e second), earlier_less d e (dated d first) (dated e second))

  -- a day number belongs to one date
  pub one_to_one : day_of d ≡ day_of e → d ≡ e
  one_to_one = only_date d e (dated d first) (dated e second)
