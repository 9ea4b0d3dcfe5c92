-- What the functions below `interest` hand each other, by the principal's sign and magnitude. No public promise cites it.
-- Assumes nothing.
use Rattle.std.specs.Prelude.{Bool, List, ◌++◌, ℕ, ◌*◌, ◌≤◌, ℤ}
use Rattle.refusal.specs.Rows.{Said, Row, first_row, rate_rows}
use Rattle.whole.specs.Whole.{magnitude_of, signed_of}
use Rattle.rounding.specs.declared.Rule.{Rule}
use Rattle.rounding.specs.Leaf.{rounded_magnitude}
use Rattle.currency.specs.declared.Currency.{Currency}
use Rattle.amount.specs.declared.Amount.{Amount}
use Rattle.amount.specs.Amounts.{largest, amount_rows}
use Rattle.calendar.specs.declared.Date.{Date}
use Rattle.calendar.specs.DayCount.{basis_of}
use Rattle.interest.specs.Interest.{last_rate, interest_rows, interest_made}

-- the rows in front of the day count's: an amount's, and row 6 at the rate
abbrev pub front_rows : (scale m : ℕ) → Currency → (rate : ℕ) → List Row
front_rows scale m currency rate = amount_rows scale m currency ++ rate_rows last_rate rate

-- what the checks let pass: each factor of the interest is within its limit
pub record Accrues (m rate n : ℕ) : Type 0 where
  pub principal : m ≤ largest
  pub points : rate ≤ last_rate
  pub days : n ≤ 366

-- the interest's coefficient, by the days
unfoldable pub accrued_to : Rule → (negative : Bool) (m rate basis days : ℕ) → ℤ
accrued_to rule negative m rate basis days =
    signed_of negative (rounded_magnitude rule negative (m * (rate * days)) (10000 * (basis_of basis).year))

-- the answer behind row 1
abbrev pub interest_by_rule : Rule → Amount → (rate basis : ℕ) → (start end : Date) → Said Amount
interest_by_rule rule a rate basis start end =
    first_row (interest_rows a.scale (magnitude_of a.coefficient) a.currency rate basis start end)
    (interest_made rule a rate basis start end)
