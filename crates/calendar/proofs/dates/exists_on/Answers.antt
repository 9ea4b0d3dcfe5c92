-- Each test of the code is the definition's. Assumes nothing.
use native.Mathlib.Omega.{arith}
use borrow.Author.Tests.{le-leb, lt-leb}
use Prim.Native.Nat.{◌≤◌}
use Rattle.calendar.specs.Calendar.{month_length, exists}
use Rattle.calendar.proofs.Months.{days_28}
use Rattle.calendar.proofs.dates.exists_on.Goals as goal

pub returns-then-year-lt1900 : goal.returns-then-year-lt1900
unfolding exists
returns-then-year-lt1900 c = let a = c.args in simp (lt-leb 1900 a.year (omega arith))

pub returns-then-year-gt2199 : goal.returns-then-year-gt2199
unfolding exists
returns-then-year-gt2199 c = let a = c.args in simp (le-leb 1900 a.year (omega arith), lt-leb a.year 2199 (omega arith))

pub returns-then-month-lt1 : goal.returns-then-month-lt1
unfolding exists
returns-then-month-lt1 c = let a = c.args in
    simp (
      le-leb 1900 a.year (omega arith),
      le-leb a.year 2199 (omega arith),
      lt-leb 1 a.month (omega arith),
    )

pub returns-then-month-gt12 : goal.returns-then-month-gt12
unfolding exists
returns-then-month-gt12 c = let a = c.args in
    simp (
      le-leb 1900 a.year (omega arith),
      le-leb a.year 2199 (omega arith),
      le-leb 1 a.month (omega arith),
      lt-leb a.month 12 (omega arith),
    )

pub returns-then-day-lt1 : goal.returns-then-day-lt1
unfolding exists
returns-then-day-lt1 c = let a = c.args in
    simp (
      le-leb 1900 a.year (omega arith),
      le-leb a.year 2199 (omega arith),
      le-leb 1 a.month (omega arith),
      le-leb a.month 12 (omega arith),
      lt-leb 1 a.day (omega arith),
    )

pub returns-then-day-le28 : goal.returns-then-day-le28
unfolding exists
returns-then-day-le28 c = let a = c.args in
    let most : 28 ≤ month_length a.year a.month = days_28 a.year a.month (omega arith) (omega arith) in
    simp (
      le-leb 1900 a.year (omega arith),
      le-leb a.year 2199 (omega arith),
      le-leb 1 a.month (omega arith),
      le-leb a.month 12 (omega arith),
      le-leb 1 a.day (omega arith),
      le-leb a.day (month_length a.year a.month) (omega arith),
    )

pub returns : goal.returns
unfolding exists
returns c = let a = c.args in
    simp (
      le-leb 1900 a.year (omega arith),
      le-leb a.year 2199 (omega arith),
      le-leb 1 a.month (omega arith),
      le-leb a.month 12 (omega arith),
      le-leb 1 a.day (omega arith),
      c.month_length.ensures,
    )
