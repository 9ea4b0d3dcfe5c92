-- Actual days: none from a date to itself, they add up over a date between, and there is one exactly to the day after. They are
-- differences of day numbers, which go up by one a day. Assumes nothing.
use mathlib.Core.Path.{◌≡◌, ap}
use mathlib.Core.Bool.{true}
use mathlib.Core.Logic.{◌↔◌}
use Prim.Native.Nat.{◌+◌}
use native.Mathlib.Omega.{arith}
use Rattle.calendar.specs.declared.Date.{Date}
use Rattle.calendar.specs.CalendarOrder.{next_day}
use Rattle.calendar.specs.DayCount.{day_of, actual}
use Rattle.calendar.specs.DaysSaid.{date_exists, InOrder}
use Rattle.calendar.proofs.NextDay.{next_dated, next_number}
use Rattle.calendar.proofs.Order.{dated, only_date}

pub actual_same : (d : Date) → actual d d ≡ 0
unfolding actual
actual_same d = omega arith

pub actual_adds : (start middle end : Date) → InOrder start middle → InOrder middle end
    → actual start middle + actual middle end ≡ actual start end
unfolding actual
actual_adds start middle end before after = omega (arith, before.order, after.order)

module _ (d e : Date) (first : date_exists d ≡ true) (second : date_exists e ≡ true) where
  pub one_day : (actual d e ≡ 1) ↔ (e ≡ next_day d)
  unfolding actual
  one_day = (
    λ one. only_date e (next_day d) (dated e second) (next_dated d first) (omega (arith, one, next_number d first)),
    λ same. omega (arith, ap day_of same, next_number d first),
  )
