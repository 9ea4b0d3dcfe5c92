-- What it tells that a date exists: its year, month and day are each within their limits. Assumes nothing.
use mathlib.Core.Path.{◌≡◌}
use mathlib.Core.Bool.{true}
use Prim.Native.Nat.{ℕ, ◌≤◌}
use borrow.Author.Tests.{leb-true}
use Rattle.calendar.specs.Calendar.{month_length, exists}
use Rattle.calendar.proofs.Numbers.{both}

-- a day of the calendar from 1900 on
pub record OnCalendar (year month day : ℕ) : Type 0 where
  pub since : 1900 ≤ year
  pub month_from : 1 ≤ month
  pub month_to : month ≤ 12
  pub day_from : 1 ≤ day
  pub day_to : day ≤ month_length year month

module _ (year month day : ℕ) (e : exists year month day ≡ true) where
  limits : OnCalendar year month day × (year ≤ 2199)
  unfolding exists
  limits =
      let days = both _ _ e in
      let from = both _ _ days.0 in
      let months = both _ _ from.0 in
      let first = both _ _ months.0 in
      let years = both _ _ first.0 in (
        record {
          since = leb-true 1900 year years.0;
          month_from = leb-true 1 month first.1;
          month_to = leb-true month 12 months.1;
          day_from = leb-true 1 day from.1;
          day_to = leb-true day (month_length year month) days.1;
        },
        leb-true year 2199 years.1,
      )

  pub on_calendar : OnCalendar year month day
  on_calendar = limits.0

  pub until : year ≤ 2199
  until = limits.1
