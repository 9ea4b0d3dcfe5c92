-- Document 02's figures of Ask 10, the doubles by their 64 bits, each by computing both sides. Assumes nothing.
use mathlib.Core.Path.{◌≡◌, refl}
use Prim.Native.Nat.{ℕ}
use lib.IntN.{pos}
use lib.Count.{count_trailing_zeros}
use lib.Ieee.{binary64, odd, of_bits, of_fields}
use Rattle.refusal.specs.Rows.{Said, gives, refuses}
use Rattle.rounding.specs.Modes.{bad_mode, rule_of}
use Rattle.rounding.specs.Leaf.{rest_of, is_odd, rounded_magnitude, rounded}
use Rattle.amount.specs.declared.Amount.{Amount}
use Rattle.doubles.specs.declared.Amounts.{Amounts}
use Rattle.doubles.specs.Doubles.{coefficient_of, given_rows, column_rows, taken_said}

-- a row of euros at scale 2 by the bits of its two columns
abbrev said : (net tax mode : ℕ) → Said Amounts
said net tax mode = taken_said (record { net = of_bits binary64 net; tax = of_bits binary64 tax }) (record { 0 = 0 }) 2 mode

abbrev cents : ℕ → Amount
cents n = record { currency = record { 0 = 0 }; scale = 2; coefficient = pos n }

-- "at scale 2, 2.675 under HALF_UP gives 267, since the double lies below"
pub below_the_half : said 0x4005_6666_6666_6666 0x4005_6666_6666_6666 4 ≡ gives (record { net = cents 267; tax = cents 267 })
unfolding count_trailing_zeros odd of_fields of_bits bad_mode rule_of rest_of is_odd rounded_magnitude rounded coefficient_of given_rows column_rows taken_said
below_the_half = refl

-- "and 0.125 under HALF_EVEN gives 12"
pub to_the_even : said 0x3fc0_0000_0000_0000 0x3fc0_0000_0000_0000 6 ≡ gives (record { net = cents 12; tax = cents 12 })
unfolding count_trailing_zeros odd of_fields of_bits bad_mode rule_of rest_of is_odd rounded_magnitude rounded coefficient_of given_rows column_rows taken_said
to_the_even = refl

-- "Not a number and infinities are refusal 16, given only where no lower number applies": alone, and beside 1e300
pub infinite : said 0x7ff0_0000_0000_0000 0 4 ≡ refuses 16 0
unfolding count_trailing_zeros odd of_fields of_bits bad_mode rule_of rest_of is_odd rounded_magnitude rounded coefficient_of given_rows column_rows taken_said
infinite = refl

pub too_large_first : said 0x7ff8_0000_0000_0000 0x7e37_e43c_8800_759c 4 ≡ refuses 13 0
unfolding count_trailing_zeros odd of_fields of_bits bad_mode rule_of rest_of is_odd rounded_magnitude rounded coefficient_of given_rows column_rows taken_said
too_large_first = refl
