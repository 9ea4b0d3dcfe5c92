-- Document 02, Ask 10: "For export, the coefficient becomes a double without loss and is divided once by 1, 10, 100 or 1,000; exact at scale 0." The
-- division is the language's, which gives the double nearest to the quotient. Cited by `export`. Assumes nothing.
use Rattle.std.specs.Prelude.{List, [], ◌∷◌, ℕ, ◌^◌, ltb, ℤ, pos, Float}
use Rattle.std.specs.Float.{binary64}
use Rattle.std.specs.Float.Ieee.{of_int, div}
use Rattle.refusal.specs.Rows.{Said, gives, Row, row, first_row}
use Rattle.refusal.specs.declared.Refusal.TheVariants.{Scale, Magnitude, Unknown}
use Rattle.whole.specs.Whole.{magnitude_of}
use Rattle.currency.specs.declared.Currency.{Currency}
use Rattle.currency.specs.Table.{unknown}
use Rattle.amount.specs.declared.Amount.{Amount}
use Rattle.amount.specs.Amounts.{over_l}
use Rattle.doubles.specs.Doubles.{last_scale}

-- "the coefficient becomes a double ... and is divided once by 1, 10, 100 or 1,000"
unfoldable pub exported : ℤ → (scale : ℕ) → Float
exported n scale = div binary64 (of_int binary64 n) (of_int binary64 (pos (10 ^ scale)))

-- rows 2, 3 and 4 at the amount, by its scale, its coefficient's magnitude and its currency number
unfoldable pub export_rows : (scale m : ℕ) → Currency → List Row
export_rows scale m currency = row Scale (ltb last_scale scale) ∷ row Magnitude (over_l m) ∷ row Unknown (unknown currency) ∷ []

unfoldable pub export_said : Amount → Said Float
export_said a = first_row (export_rows a.scale (magnitude_of a.coefficient) a.currency) (gives (exported a.coefficient a.scale))
