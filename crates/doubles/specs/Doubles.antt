-- Document 02, Ask 10: "Take such a row and a currency and give both as amounts at a scale from 0 to 3, by a given mode, from the exact binary worth of
-- the double". A double is the language's: no number, an infinity, or `fin s m e`, which is m x 2^e, negative where s is true. Cited by `take_row`.
-- Assumes nothing.
use Rattle.std.specs.Prelude.{Bool, true, false, List, [], ◌∷◌, ℕ, ◌*◌, ◌^◌, ltb, ℤ, pos, Float}
use Rattle.std.specs.Float.{nan, inf, fin}
use Rattle.std.specs.Float.Ieee.{up, down}
use Rattle.refusal.specs.Rows.{Said, gives, Row, row, first_row}
use Rattle.refusal.specs.declared.Refusal.TheVariants.{Mode, Scale, Unknown, Limit, NoNumber}
use Rattle.whole.specs.Whole.{magnitude_of, signed_of}
use Rattle.rounding.specs.declared.Rule.{Rule}
use Rattle.rounding.specs.Modes.{bad_mode, rule_of}
use Rattle.rounding.specs.Leaf.{rounded}
use Rattle.currency.specs.declared.Currency.{Currency}
use Rattle.currency.specs.Table.{unknown}
use Rattle.amount.specs.declared.Amount.{Amount}
use Rattle.amount.specs.Amounts.{over_l}
use Rattle.doubles.specs.declared.Row.{Row as Given}
use Rattle.doubles.specs.declared.Amounts.{Amounts}

-- "at a scale from 0 to 3"; "A scale over 3 is refusal 2"
abbrev pub last_scale : ℕ
last_scale = 3

-- "Not a number and infinities"
abbrev pub no_number : Float → Bool
no_number nan = true
no_number (inf s) = true
no_number (fin s m e) = false

-- "from the exact binary worth of the double", "a mantissa times or over a power of two": m x 2^e is m x up e / down e, of which one is 1. Its coefficient at a
-- scale is that times 10^scale, rounded by the rule. What is no number has none, and 0 stands there.
unfoldable pub coefficient_of : Rule → (scale : ℕ) → Float → ℤ
coefficient_of rule scale nan = pos 0
coefficient_of rule scale (inf s) = pos 0
coefficient_of rule scale (fin s m e) = rounded rule (signed_of s (m * up e * 10 ^ scale)) (down e)

abbrev pub amount_at : Currency → (scale : ℕ) → ℤ → Amount
amount_at currency scale n = record { currency = currency; scale = scale; coefficient = n }

-- rows 2 and 4 at what the call takes
unfoldable pub given_rows : (scale : ℕ) → Currency → List Row
given_rows scale currency = row Scale (ltb last_scale scale) ∷ row Unknown (unknown currency) ∷ []

-- "too large is 13", "Not a number and infinities are refusal 16, given only where no lower number applies", "If either column is refused, the row is, with
-- the lower number": by the columns' magnitudes and whether they are no number
unfoldable pub column_rows : (net tax : ℕ) (netless taxless : Bool) → List Row
column_rows net tax netless taxless = row Limit (over_l net) ∷ row Limit (over_l tax) ∷ row NoNumber netless ∷ row NoNumber taxless ∷ []

abbrev pub made_rows : Rule → (scale : ℕ) (net tax : Float) → List Row
made_rows rule scale net tax =
    column_rows (magnitude_of (coefficient_of rule scale net)) (magnitude_of (coefficient_of rule scale tax)) (no_number net) (no_number tax)

abbrev pub amounts_of : Rule → Currency → (scale : ℕ) (net tax : Float) → Amounts
amounts_of rule currency scale net tax =
    record { net = amount_at currency scale (coefficient_of rule scale net); tax = amount_at currency scale (coefficient_of rule scale tax) }

abbrev pub made_said : Rule → Currency → (scale : ℕ) (net tax : Float) → Said Amounts
made_said rule currency scale net tax = first_row (made_rows rule scale net tax) (gives (amounts_of rule currency scale net tax))

-- the rows at what the call takes
abbrev pub taken_rows : Currency → (scale mode : ℕ) → List Row
taken_rows currency scale mode = row Mode (bad_mode mode) ∷ given_rows scale currency

unfoldable pub taken_said : Given → Currency → (scale mode : ℕ) → Said Amounts
taken_said given currency scale mode =
    first_row (taken_rows currency scale mode) (made_said (rule_of mode) currency scale given.net given.tax)
