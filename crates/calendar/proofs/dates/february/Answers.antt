-- The code's test is the definition's. Assumes nothing.
use mathlib.Core.Path.{sym, ◌∙◌}
use Rattle.calendar.specs.Calendar.{month_length}
use Rattle.calendar.proofs.dates.february.Goals as goal

pub returns-then-is_leap : goal.returns-then-is_leap
unfolding month_length
returns-then-is_leap c = simp (sym c.is_leap.ensures ∙ c.if-is_leap.true)

pub returns-else-is_leap : goal.returns-else-is_leap
unfolding month_length
returns-else-is_leap c = simp (sym c.is_leap.ensures ∙ c.if-is_leap.false)
