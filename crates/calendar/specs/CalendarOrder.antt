-- The calendar's order of dates, and the day after a date. Cited by the laws on actual days. Assumes nothing.
use Rattle.std.specs.Prelude.{◌≡◌, cond, ◌+◌, ◌<◌, ltb}
use Rattle.calendar.specs.declared.Date.{Date}
use Rattle.calendar.specs.Calendar.{month_length}

-- one date is earlier than another: by the year, then by the month, then by the day
pub data Earlier (d e : Date) : Type 0 where
  by_year : d.year < e.year → Earlier d e
  by_month : d.year ≡ e.year → d.month < e.month → Earlier d e
  by_day : d.year ≡ e.year → d.month ≡ e.month → d.day < e.day → Earlier d e

-- the next day of the month; after the last, the first of the next month; after the last month, the first day of the next year
unfoldable pub next_day : Date → Date
next_day d =
    cond (ltb d.day (month_length d.year d.month)) (record { year = d.year; month = d.month; day = d.day + 1 })
    (cond (ltb d.month 12) (record { year = d.year; month = d.month + 1; day = 1 })
    (record { year = d.year + 1; month = 1; day = 1 }))
