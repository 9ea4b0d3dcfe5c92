-- The months before March are those of every year, and behind the February of a leap year stands one day more. Assumes nothing.
use mathlib.Core.Path.{sym, ◌∙◌}
use Prim.Native.Nat.{◌-◌}
use native.Mathlib.Omega.{arith}
use Rattle.calendar.proofs.Months.{months_rise, year_within, behind_february, before_march, common_year}
use Rattle.calendar.proofs.dates.days_before_month.Goals as goal

pub overflow_add-result : goal.overflow_add-result
overflow_add-result c = let s = c in
    omega (arith, s.common_days-common.ensures, s.requires, months_rise 1901 (s.args.month - 1) 12 (omega (arith, s.requires)), year_within 1901)

pub returns-then-month-gt2 : goal.returns-then-month-gt2
returns-then-month-gt2 c = let s = c in
    let a = s.args in
    let leap = sym s.is_leap-leap.ensures ∙ c.if-leap.true in
    omega (arith, s.common_days-common.ensures, rw leap at (behind_february a.year a.month (omega (arith, c.if-month-gt2.true))))

pub returns-else-month-gt2 : goal.returns-else-month-gt2
returns-else-month-gt2 c = let s = c in
    let a = s.args in
    s.common_days-common.ensures ∙ sym (before_march a.year (a.month - 1) (omega (arith, c.if-month-gt2.false)))

pub returns-else-leap : goal.returns-else-leap
returns-else-leap c = let s = c in
    let a = s.args in
    s.common_days-common.ensures ∙ sym (common_year a.year (a.month - 1) (sym s.is_leap-leap.ensures ∙ c.if-leap.false))
