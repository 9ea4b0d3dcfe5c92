-- What the functions below `take_row` hand up: a double's parts by its 64 bits. No public promise cites it. Assumes nothing.
use Rattle.std.specs.Prelude.{Bool, false, cond, ℕ, ◌+◌, ◌/◌, ◌%◌, ◌^◌, ltb, leb, eqb, Float}
use Rattle.std.specs.Float.{binary64}
use Rattle.std.specs.Float.Ieee.{of_bits}
use Rattle.whole.specs.Whole.{magnitude_of}
use Rattle.rounding.specs.declared.Rule.{Rule}
use Rattle.rounding.specs.declared.Rest.TheVariants.{Below}
use Rattle.rounding.specs.Modes.{rises_by}
use Rattle.rounding.specs.Leaf.{raised}
use Rattle.amount.specs.Amounts.{largest}
use Rattle.doubles.specs.declared.column.Column.{Column}
use Rattle.doubles.specs.Doubles.{no_number, coefficient_of}

-- the sign, the exponent's field and the digits
abbrev pub sign_of : ℕ → Bool
sign_of bits = leb (2 ^ 63) bits

abbrev pub field_of : ℕ → ℕ
field_of bits = bits % 2 ^ 63 / 2 ^ 52

abbrev pub digits_of : ℕ → ℕ
digits_of bits = bits % 2 ^ 52

-- a field of 0 has no leading digit
abbrev pub mantissa_of : (field digits : ℕ) → ℕ
mantissa_of field digits = cond (eqb field 0) digits (2 ^ 52 + digits)

-- n over a power of two that is above twice n
abbrev pub tiny_of : Rule → (negative : Bool) → ℕ → ℕ
tiny_of rule negative n = cond (eqb n 0) 0 (raised (rises_by rule negative false Below) 0)

-- at most one more than L
unfoldable pub capped : ℕ → ℕ
capped m = cond (ltb largest m) (largest + 1) m

abbrev pub magnitude_at : Rule → (scale : ℕ) → Float → ℕ
magnitude_at rule scale x = magnitude_of (coefficient_of rule scale x)

-- a column by its bits
abbrev pub column_at : Rule → (scale bits : ℕ) → Column
column_at rule scale bits =
    let x = of_bits binary64 bits in
    record { negative = sign_of bits; m = capped (magnitude_at rule scale x); numberless = no_number x }
