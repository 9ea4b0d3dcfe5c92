-- The day after an existing date has the next day number, and is of the calendar too: a month's last day is followed by the first of
-- the next month, since the months before it have grown by just its length, and December's by the first day of the next year.
-- Assumes nothing.
use mathlib.Core.Path.{◌≡◌, ap}
use mathlib.Core.Bool.{true}
use Prim.Native.Nat.{◌+◌, ◌-◌, ◌<◌}
use native.Mathlib.Decide.{dec_lt}
use native.Mathlib.Omega.{arith}
use borrow.Author.Tests.{lt-ltb, le-ltb}
use Rattle.calendar.specs.declared.Date.{Date}
use Rattle.calendar.specs.Calendar.{month_length, days_of_months, day_number}
use Rattle.calendar.specs.CalendarOrder.{next_day}
use Rattle.calendar.specs.DayCount.{day_of}
use Rattle.calendar.specs.DaysSaid.{date_exists}
use Rattle.calendar.proofs.Months.{some_day, no_months, one_month}
use Rattle.calendar.proofs.Years.{one_year}
use Rattle.calendar.proofs.Order.{Dated, dated}

after : (d : Date) → Dated d → Dated (next_day d) × (day_of (next_day d) ≡ day_of d + 1)
unfolding next_day day_number
after d h = at (dec_lt d.day (month_length d.year d.month))
  where
    months : d.day ≡ month_length d.year d.month → Dec (d.month < 12) → Dated (next_day d) × (day_of (next_day d) ≡ day_of d + 1)
    months last (yes l) =
        let same : d.month + 1 - 1 ≡ d.month = omega arith in
        rw (le-ltb d.day (month_length d.year d.month) (omega arith), lt-ltb d.month 12 l) (
          record {
            since = h.since;
            month_from = omega arith;
            month_to = omega arith;
            day_from = omega arith;
            day_to = some_day d.year (d.month + 1) (omega arith) (omega arith);
          },
          rw same (omega (arith, one_month d.year d.month h.month_from)),
        )
    months last (no f) =
        let december : d.month ≡ 12 = omega arith in
        rw (le-ltb d.day (month_length d.year d.month) (omega arith), le-ltb d.month 12 (omega arith)) (
          record {
            since = omega arith;
            month_from = omega arith;
            month_to = omega arith;
            day_from = omega arith;
            day_to = some_day (d.year + 1) 1 (omega arith) (omega arith);
          },
          omega (
            arith,
            one_year d.year h.since,
            ap (days_of_months d.year) december,
            one_month d.year d.month h.month_from,
            no_months (d.year + 1),
          ),
        )

    at : Dec (d.day < month_length d.year d.month) → Dated (next_day d) × (day_of (next_day d) ≡ day_of d + 1)
    at (yes l) =
        rw (lt-ltb _ _ l) (
          record {
            since = h.since;
            month_from = h.month_from;
            month_to = h.month_to;
            day_from = omega arith;
            day_to = omega arith;
          },
          omega arith,
        )
    at (no f) = months (omega arith) (dec_lt d.month 12)

module _ (d : Date) (h : date_exists d ≡ true) where
  pub next_dated : Dated (next_day d)
  next_dated = (after d (dated d h)).0

  pub next_number : day_of (next_day d) ≡ day_of d + 1
  next_number = (after d (dated d h)).1
