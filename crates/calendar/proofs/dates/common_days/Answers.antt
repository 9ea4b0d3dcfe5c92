-- Each arm adds up the months before its own. Assumes nothing.
use mathlib.Core.Path.{◌≡◌}
use Prim.Native.Nat.{◌≤◌}
use native.Mathlib.Omega.{arith}
use Rattle.calendar.specs.Calendar.{leap, month_length, days_of_months}
use Rattle.calendar.proofs.Numbers.{past}
use Rattle.calendar.proofs.dates.common_days.Goals as goal

pub returns-in-1 : goal.returns-in-1
unfolding leap days_of_months month_length
returns-in-1 c = rw c.in-1.is

pub returns-in-2 : goal.returns-in-2
unfolding leap days_of_months month_length
returns-in-2 c = rw c.in-2.is

pub returns-in-3 : goal.returns-in-3
unfolding leap days_of_months month_length
returns-in-3 c = rw c.in-3.is

pub returns-in-4 : goal.returns-in-4
unfolding leap days_of_months month_length
returns-in-4 c = rw c.in-4.is

pub returns-in-5 : goal.returns-in-5
unfolding leap days_of_months month_length
returns-in-5 c = rw c.in-5.is

pub returns-in-6 : goal.returns-in-6
unfolding leap days_of_months month_length
returns-in-6 c = rw c.in-6.is

pub returns-in-7 : goal.returns-in-7
unfolding leap days_of_months month_length
returns-in-7 c = rw c.in-7.is

pub returns-in-8 : goal.returns-in-8
unfolding leap days_of_months month_length
returns-in-8 c = rw c.in-8.is

pub returns-in-9 : goal.returns-in-9
unfolding leap days_of_months month_length
returns-in-9 c = rw c.in-9.is

pub returns-in-10 : goal.returns-in-10
unfolding leap days_of_months month_length
returns-in-10 c = rw c.in-10.is

pub returns-in-11 : goal.returns-in-11
unfolding leap days_of_months month_length
returns-in-11 c = rw c.in-11.is

pub returns-in_default : goal.returns-in_default
unfolding leap days_of_months month_length
returns-in_default c = let month = c.args.month in
    let last : 12 ≤ month = past month 1 11 c.requires.0 c.in_default.in_default-own.rest in
    let december : month ≡ 12 = omega (arith, c.requires) in rw december
