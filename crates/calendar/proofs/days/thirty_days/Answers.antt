-- The two places differ as in the definition, and the first is not past the second. Assumes nothing.
use native.Mathlib.Omega.{arith}
use Rattle.calendar.specs.DayCount.{difference}
use Rattle.calendar.proofs.Thirty.{place_rises}
use Rattle.calendar.proofs.days.thirty_days.Goals as goal

pub overflow_sub-result : goal.overflow_sub-result
overflow_sub-result c = let s = c in
    omega (arith, place_rises s.args.start s.args.end s.requires.dates, s.requires.least, c.clip.ensures)

pub returns : goal.returns
unfolding difference
returns c = rw c.clip.ensures
