-- February, the four months of 30 days, and those of 31. Assumes nothing.
use Rattle.calendar.proofs.Months.{long_month, short_month}
use Rattle.calendar.proofs.dates.month_length.Goals as goal

pub returns-in-4 : goal.returns-in-4
returns-in-4 c = short_month c.args.year c.args.month c.in-4.is

pub returns-in_default : goal.returns-in_default
returns-in_default c = let s = c in
    long_month s.args.year s.args.month s.requires.0 s.requires.1 c.in_default.in_default-own.rest.0.1 c.in_default.in_default-own.rest.1
