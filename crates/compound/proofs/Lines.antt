-- Tables by computing both sides: at the edge of L on both sides, and interest at the half. Assumes nothing.
use mathlib.Core.Path.{◌≡◌, refl}
use Prim.Native.Nat.{ℕ, ◌+◌, ◌*◌, ◌/◌}
use lib.IntN.{pos}
use Rattle.refusal.specs.Rows.{gives, refuses}
use Rattle.rounding.specs.Leaf.{rest_of, is_odd, rounded_magnitude}
use Rattle.amount.specs.declared.Amount.{Amount}
use Rattle.amount.specs.Amounts.{largest}
use Rattle.balances.specs.Rule.{interest_on, balance_at}
use Rattle.compound.specs.Table.{any_over, table_said}

-- so many cents
abbrev cents : ℕ → Amount
cents n = record { currency = record { 0 = 0 }; scale = 2; coefficient = pos n }

-- one period at 1,000 points: ten elevenths of L grow to L itself
pub row_at_the_edge : balance_at (largest * 10 / 11) 1000 1 ≡ largest
unfolding rest_of is_odd rounded_magnitude interest_on balance_at
row_at_the_edge = refl

pub edge_accepted : table_said (cents (largest * 10 / 11)) 1000 1 2 ≡ gives 2
unfolding rest_of is_odd rounded_magnitude interest_on balance_at any_over table_said
edge_accepted = refl

-- and one cent more grows past it
pub edge_refused : table_said (cents (largest * 10 / 11 + 1)) 1000 1 2 ≡ refuses 13 0
unfolding rest_of is_odd rounded_magnitude interest_on balance_at any_over table_said
edge_refused = refl

-- L itself at no rate, for the most periods
pub largest_accepted : table_said (cents largest) 0 120 121 ≡ gives 121
unfolding rest_of is_odd rounded_magnitude interest_on balance_at any_over table_said
largest_accepted = refl

-- a half of 1 goes to 0, and a half of 3 to 2
pub halves : (balance_at 1 5000 1 ≡ 1) × (balance_at 3 5000 1 ≡ 5)
unfolding rest_of is_odd rounded_magnitude interest_on balance_at
halves = (refl, refl)
