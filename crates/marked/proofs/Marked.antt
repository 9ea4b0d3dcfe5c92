-- Document 01's thirteen marked cases hold of the definitions: one table, one statement, computed. Assumes nothing.
use mathlib.Core.Path.{◌≡◌, refl}
use Rattle.rounding.specs.Modes.{bad_mode, rule_of}
use Rattle.rounding.specs.Leaf.{rest_of, is_odd, rounded_magnitude, rounded}
use Rattle.rounding.specs.Plain.{plain_rows, quotient_of, plain_said}
use Rattle.currency.specs.Table.{line_of}
use Rattle.currency.specs.Digits.{not_own_digits}
use Rattle.euro.specs.Steps.{to_euro, from_euro}
use Rattle.euro.specs.Conversion.{convert_rows, exchanged, converted, convert_by_said, convert_said}
use Rattle.calendar.specs.Calendar.{leap, month_length, exists, days_of_months, days_of_years, day_number}
use Rattle.calendar.specs.DayCount.{actual, difference}
use Rattle.calendar.specs.DaysSaid.{days_rows, days_said}
use Rattle.interest.specs.Interest.{interest_rows, interest_of, interest_said}
use Rattle.tax.specs.Tax.{tax_rows, from_gross, split_said}
use Rattle.whole.specs.Sums.{sum_of}
use Rattle.remainder.specs.Rule.{rounded_down, remainders, units_left, largest, hand_out, shares_of, signed_shares}
use Rattle.weights.specs.Weights.{list_rows}
use Rattle.sharing.specs.Shared.{shared_said}
use Rattle.units.specs.Rule.{may_take, due, best_of, taker_of, totals}
use Rattle.marked.specs.Cases.{takers, said, printed}

pub marked : said ≡ printed
unfolding said takers bad_mode rule_of rest_of is_odd rounded_magnitude rounded plain_rows quotient_of plain_said line_of not_own_digits to_euro from_euro convert_rows exchanged converted convert_by_said convert_said leap month_length exists days_of_months days_of_years day_number actual difference days_rows days_said interest_rows interest_of interest_said tax_rows from_gross split_said sum_of rounded_down remainders units_left largest hand_out shares_of signed_shares list_rows shared_said may_take due best_of taker_of totals
marked = refl
