-- Document 01, "Amounts and the table of currencies": the amount, and the rows of the table of refusals that an amount can hold.
-- Cited by the promises on amounts. Assumes nothing.
use Rattle.std.specs.Prelude.{Bool, List, [], ◌∷◌, ℕ, ◌-◌, ◌^◌, ltb, ℤ, pos, ◌*ℤ◌}
use Rattle.refusal.specs.Rows.{Said, gives, Row, row, first_row}
use Rattle.refusal.specs.declared.Refusal.TheVariants.{Scale, Magnitude, Unknown, Limit}
use Rattle.whole.specs.Whole.{magnitude_of}
use Rattle.currency.specs.declared.Currency.{Currency}
use Rattle.currency.specs.Table.{unknown}
use Rattle.amount.specs.declared.Amount.{Amount}

-- "The largest magnitude of a coefficient, called L" is by document 02, Ask 7: "L rises to 999,999,999,999,999 everywhere"; "a scale from 0 to 6"
abbrev pub largest : ℕ
largest = 999999999999999

abbrev pub last_scale : ℕ
last_scale = 6

-- rows 2, 3 and 4 at an amount, by its scale, its coefficient's magnitude and its currency number
abbrev pub bad_scale : ℕ → Bool
bad_scale scale = ltb last_scale scale

abbrev pub over_l : ℕ → Bool
over_l m = ltb largest m

abbrev pub amount_rows : (scale m : ℕ) → Currency → List Row
amount_rows scale m currency = row Scale (bad_scale scale) ∷ row Magnitude (over_l m) ∷ row Unknown (unknown currency) ∷ []

-- row 13 at a result
abbrev pub limited : {A : Type 0} → ℤ → A → Said A
limited result value = first_row (row Limit (over_l (magnitude_of result)) ∷ []) (gives value)

-- an amount's coefficient at a greater scale: "Rescaling: exact to a greater scale"
abbrev pub raised_to : ℕ → Amount → ℤ
raised_to scale a = a.coefficient *ℤ pos (10 ^ (scale - a.scale))
