-- Each test of the code is the definition's. Assumes nothing.
use Prim.Native.Nat.{◌%◌}
use native.Mathlib.Omega.{arith}
use borrow.Author.Tests.{eq-eqb, ne_eqb}
use Rattle.calendar.specs.Calendar.{leap}
use Rattle.calendar.proofs.dates.is_leap.Goals as goal

pub returns-then-year-eq0 : goal.returns-then-year-eq0
unfolding leap
returns-then-year-eq0 c = simp (eq-eqb (c.args.year % 400) 0 (omega arith))

pub returns-then-year-eq0-2 : goal.returns-then-year-eq0-2
unfolding leap
returns-then-year-eq0-2 c = let year = c.args.year in simp (ne_eqb (year % 400) 0 (omega arith), eq-eqb (year % 100) 0 (omega arith))

pub returns : goal.returns
unfolding leap
returns c = let year = c.args.year in simp (ne_eqb (year % 400) 0 (omega arith), ne_eqb (year % 100) 0 (omega arith))
