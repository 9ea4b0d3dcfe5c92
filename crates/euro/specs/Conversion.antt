-- Document 01, "Euro steps": the conversion of an amount to a currency, one statement for all 21 currencies and for every number of decimals of the euro
-- step (document 02, Ask 7). Cited by `convert` and `convert_by`. Assumes nothing.
use Rattle.std.specs.Prelude.{cond, List, [], ◌∷◌, ℕ, ltb, ℤ}
use Rattle.refusal.specs.Rows.{Said, gives, Row, row, first_row}
use Rattle.refusal.specs.declared.Refusal.TheVariants.{Scale, Magnitude, Unknown, Limit}
use Rattle.whole.specs.Whole.{magnitude_of}
use Rattle.currency.specs.declared.Currency.{Currency}
use Rattle.currency.specs.Table.{line_of, unknown, same}
use Rattle.currency.specs.Digits.{not_own_digits}
use Rattle.currency.specs.Names.{EUR}
use Rattle.amount.specs.declared.Amount.{Amount}
use Rattle.amount.specs.Amounts.{bad_scale, over_l, limited}
use Rattle.euro.specs.Steps.{to_euro, from_euro, cents, step_decimals, fewest_decimals, most_decimals}

-- rows 2, 3 and 4, by the amount's scale, magnitude and currency, by the decimals of the euro step ("another number is refusal 2") and by the currency
-- that is asked for
unfoldable pub convert_rows : (decimals scale m : ℕ) → (from to : Currency) → List Row
convert_rows decimals scale m from to =
    row Scale (bad_scale scale)
    ∷ row Scale (not_own_digits from scale)
    ∷ row Scale (ltb decimals fewest_decimals)
    ∷ row Scale (ltb most_decimals decimals)
    ∷ row Magnitude (over_l m)
    ∷ row Unknown (unknown from)
    ∷ row Unknown (unknown to)
    ∷ []

-- the result in a currency, at its own digits; row 13 at the result
abbrev pub settled : Currency → ℤ → Said Amount
settled to n = limited n (record { currency = to; scale = (line_of to).digits; coefficient = n })

-- article 4(4), "Old to old": through the euro; row 13 at the euro step
abbrev pub through_euro : (decimals : ℕ) → (from to : Currency) → ℤ → Said Amount
through_euro decimals from to n =
    let step = to_euro (line_of from) decimals n in
    first_row (row Limit (over_l (magnitude_of step)) ∷ []) (settled to (from_euro (line_of to) decimals step))

-- between two currencies that differ: euro to old unit, old unit to euro, or old to old
unfoldable pub exchanged : (decimals : ℕ) → (from to : Currency) → ℤ → Said Amount
exchanged decimals from to n =
    cond (same from EUR) (settled to (from_euro (line_of to) cents n))
    (cond (same to EUR) (settled to (to_euro (line_of from) cents n)) (through_euro decimals from to n))

-- "Same currency on both sides: the amount unchanged (house rule)"
unfoldable pub converted : (decimals : ℕ) → Amount → Currency → Said Amount
converted decimals a to = cond (same a.currency to) (gives a) (exchanged decimals a.currency to a.coefficient)

-- by a euro step of so many decimals
unfoldable pub convert_by_said : Amount → Currency → (decimals : ℕ) → Said Amount
convert_by_said a to decimals =
    first_row (convert_rows decimals a.scale (magnitude_of a.coefficient) a.currency to) (converted decimals a to)

-- document 01's conversion: by the step of 3
unfoldable pub convert_said : Amount → Currency → Said Amount
convert_said a to = convert_by_said a to step_decimals
