-- The years, the months and the day add up as in the definition, and the number of an existing date is small. Assumes nothing.
use native.Mathlib.Omega.{arith}
use Rattle.calendar.specs.Calendar.{day_number}
use Rattle.calendar.proofs.Order.{dated, number_within}
use Rattle.calendar.proofs.dates.day_number.Goals as goal

pub days_before_year-requires : goal.days_before_year-requires
days_before_year-requires c = (dated c.args.date c.requires).since

pub days_before_month-requires : goal.days_before_month-requires
days_before_month-requires c = let h = dated c.args.date c.requires in (h.month_from, h.month_to)

pub overflow_add-result : goal.overflow_add-result
unfolding day_number
overflow_add-result c = let s = c in
    omega (arith, number_within s.args.date s.requires, c.days_before_year.ensures, c.days_before_month.ensures)

pub overflow_add-result-2 : goal.overflow_add-result-2
unfolding day_number
overflow_add-result-2 c = let s = c in
    omega (arith, number_within s.args.date s.requires, c.days_before_year.ensures, c.days_before_month.ensures)

pub returns : goal.returns
unfolding day_number
returns c = omega (arith, c.days_before_year.ensures, c.days_before_month.ensures)
