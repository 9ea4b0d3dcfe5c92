-- Document 01, "Interest over days". Cited by `interest`. Assumes nothing.
use Rattle.std.specs.Prelude.{List, ◌∷◌, ◌++◌, ℕ, ◌*◌, ℤ, pos, ◌*ℤ◌}
use Rattle.refusal.specs.Rows.{Said, Row, row, first_row, rate_rows}
use Rattle.refusal.specs.declared.Refusal.TheVariants.{Mode}
use Rattle.whole.specs.Whole.{magnitude_of}
use Rattle.rounding.specs.declared.Rule.{Rule}
use Rattle.rounding.specs.Modes.{bad_mode, rule_of}
use Rattle.rounding.specs.Leaf.{rounded}
use Rattle.currency.specs.declared.Currency.{Currency}
use Rattle.amount.specs.declared.Amount.{Amount}
use Rattle.amount.specs.Amounts.{amount_rows, limited}
use Rattle.calendar.specs.declared.Date.{Date}
use Rattle.calendar.specs.DayCount.{basis_of}
use Rattle.calendar.specs.DaysSaid.{days_rows}

-- "Yearly rate: 0 to 10,000 basis points"
abbrev pub last_rate : ℕ
last_rate = 10000

-- the rows behind row 1 and before row 13: an amount's, row 6 at the rate, and those of the day count
unfoldable pub interest_rows : (scale m : ℕ) → Currency → (rate basis : ℕ) → (start end : Date) → List Row
interest_rows scale m currency rate basis start end =
    amount_rows scale m currency ++ rate_rows last_rate rate ++ days_rows basis start end

-- "Interest = principal x rate x days / (10,000 x year), rounded once by the given mode at the principal's scale."
unfoldable pub interest_of : Rule → ℤ → (rate basis : ℕ) → (start end : Date) → ℤ
interest_of rule principal rate basis start end =
    rounded rule (principal *ℤ pos (rate * (basis_of basis).count start end)) (10000 * (basis_of basis).year)

-- row 13 at the interest
abbrev pub interest_made : Rule → Amount → (rate basis : ℕ) → (start end : Date) → Said Amount
interest_made rule a rate basis start end =
    let n = interest_of rule a.coefficient rate basis start end in
    limited n (record { currency = a.currency; scale = a.scale; coefficient = n })

unfoldable pub interest_said : Amount → (rate basis : ℕ) → (start end : Date) → (mode : ℕ) → Said Amount
interest_said a rate basis start end mode =
    first_row
    (row Mode (bad_mode mode) ∷ interest_rows a.scale (magnitude_of a.coefficient) a.currency rate basis start end)
    (interest_made (rule_of mode) a rate basis start end)
