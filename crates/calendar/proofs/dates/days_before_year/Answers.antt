-- The closed form of the days of the years. Assumes nothing.
use Rattle.calendar.proofs.Years.{days_of_years_lem}
use Rattle.calendar.proofs.dates.days_before_year.Goals as goal

pub returns : goal.returns
returns c = days_of_years_lem c.args.year c.requires
