-- Document 01, "Tax in and out of a price". Cited by `tax_from_net`, `tax_from_gross` and `net_for_gross`. Assumes nothing.
use Rattle.std.specs.Prelude.{List, [], ◌∷◌, ◌++◌, ℕ, ◌+◌, ℤ, pos, ◌+ℤ◌, ◌-ℤ◌, ◌*ℤ◌}
use Rattle.refusal.specs.Rows.{Said, gives, Row, row, first_row, rate_rows}
use Rattle.refusal.specs.declared.Refusal.TheVariants.{Mode, Limit}
use Rattle.whole.specs.Whole.{magnitude_of}
use Rattle.rounding.specs.declared.Rule.{Rule}
use Rattle.rounding.specs.Modes.{bad_mode, rule_of}
use Rattle.rounding.specs.Leaf.{rounded}
use Rattle.currency.specs.declared.Currency.{Currency}
use Rattle.amount.specs.declared.Amount.{Amount}
use Rattle.amount.specs.Amounts.{over_l, amount_rows}
use Rattle.tax.specs.declared.Split.{Split}

-- "Rate r: 0 to 1,000,000 parts per million"
abbrev pub million : ℕ
million = 1000000

-- the rows behind row 1 and before row 13: an amount's, and row 6 at the rate
unfoldable pub tax_rows : (scale m : ℕ) → Currency → (rate : ℕ) → List Row
tax_rows scale m currency rate = amount_rows scale m currency ++ rate_rows million rate

-- rows 1 to 6 at what a call takes
abbrev pub taken_rows : (scale m : ℕ) → Currency → (rate mode : ℕ) → List Row
taken_rows scale m currency rate mode = row Mode (bad_mode mode) ∷ tax_rows scale m currency rate

abbrev pub rows_taken : Amount → (rate mode : ℕ) → List Row
rows_taken a rate mode = taken_rows a.scale (magnitude_of a.coefficient) a.currency rate mode

-- an amount with another coefficient
abbrev pub like : Amount → ℤ → Amount
like a n = record { currency = a.currency; scale = a.scale; coefficient = n }

-- "From net: tax = net x r / 1,000,000 rounded by the mode, gross = net + tax."
unfoldable pub from_net : Rule → Amount → ℕ → Split
from_net rule net r =
    let tax = rounded rule (net.coefficient *ℤ pos r) million in
    record { net = net; tax = like net tax; gross = like net (net.coefficient +ℤ tax) }

-- "From gross: tax = gross x r / (1,000,000 + r) rounded by the mode, net = gross - tax."
unfoldable pub from_gross : Rule → Amount → ℕ → Split
from_gross rule gross r =
    let tax = rounded rule (gross.coefficient *ℤ pos r) (million + r) in
    record { net = like gross (gross.coefficient -ℤ tax); tax = like gross tax; gross = gross }

-- row 13 at what is made
abbrev pub rows_made : Split → List Row
rows_made s =
    row Limit (over_l (magnitude_of s.tax.coefficient))
    ∷ row Limit (over_l (magnitude_of s.gross.coefficient))
    ∷ row Limit (over_l (magnitude_of s.net.coefficient))
    ∷ []

abbrev pub made : Split → Said Split
made s = first_row (rows_made s) (gives s)

-- the answer for an amount and a rate, by the way that the price is taken apart
unfoldable pub split_said : (Rule → Amount → ℕ → Split) → Amount → (rate mode : ℕ) → Said Split
split_said split a rate mode = first_row (rows_taken a rate mode) (made (split (rule_of mode) a rate))

abbrev pub from_net_said : Amount → (rate mode : ℕ) → Said Split
from_net_said = split_said from_net

abbrev pub from_gross_said : Amount → (rate mode : ℕ) → Said Split
from_gross_said = split_said from_gross
