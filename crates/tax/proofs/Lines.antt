-- Document 01's lines on tax, each by computing both sides, and document 02's on a net for a gross. Assumes nothing.
use mathlib.Core.Path.{◌≡◌, refl}
use Prim.Native.Nat.{ℕ}
use native.Mathlib.Omega.{arith}
use lib.IntN.{pos}
use Rattle.refusal.specs.Rows.{Said, gives, refuses}
use Rattle.rounding.specs.Modes.{bad_mode, rule_of}
use Rattle.rounding.specs.Leaf.{rest_of, is_odd, rounded_magnitude, rounded}
use Rattle.amount.specs.declared.Amount.{Amount}
use Rattle.tax.specs.declared.Split.{Split}
use Rattle.tax.specs.Tax.{tax_rows, from_net, from_gross, split_said, from_net_said, from_gross_said}
use Rattle.tax.specs.NetFor.{NetSaid, found, none}
use Rattle.tax.proofs.NetFor.{none_when}

-- so many cents
abbrev cents : ℕ → Amount
cents n = record { currency = record { 0 = 0 }; scale = 2; coefficient = pos n }

abbrev priced : (net tax gross : ℕ) → Said Split
priced net tax gross = gives (record { net = cents net; tax = cents tax; gross = cents gross })

-- "Gross 1.00 at 200,000, HALF_UP: tax 0.17, net 0.83."
pub gross_one : from_gross_said (cents 100) 200000 4 ≡ priced 83 17 100
unfolding bad_mode rule_of rest_of is_odd rounded_magnitude rounded tax_rows from_gross split_said
gross_one = refl

-- "Gross 0.03: tax 0.01, net 0.02, whose own gross is 0.02."
pub gross_three_cents : from_gross_said (cents 3) 200000 4 ≡ priced 2 1 3
unfolding bad_mode rule_of rest_of is_odd rounded_magnitude rounded tax_rows from_gross split_said
gross_three_cents = refl

pub net_two_cents : from_net_said (cents 2) 200000 4 ≡ priced 2 0 2
unfolding bad_mode rule_of rest_of is_odd rounded_magnitude rounded tax_rows from_net split_said
net_two_cents = refl

-- document 02, Ask 5: "At 200,000 with HALF_UP: 0.04 has net 0.03, 0.03 has none."
pub four_cents : NetSaid (cents 4) 200000 4 (priced 3 1 4)
unfolding bad_mode rule_of rest_of is_odd rounded_magnitude rounded tax_rows from_net split_said
four_cents = found refl (cents 3) (record { split = record { net = cents 3; tax = cents 1; gross = cents 4 }; said = refl; is = refl })

pub three_cents : NetSaid (cents 3) 200000 4 (refuses 15 0)
unfolding bad_mode rule_of rest_of is_odd rounded_magnitude rounded tax_rows
three_cents = none refl (none_when 200000 4 (cents 3) (λ same. let z : ◌≡◌ {A = ℕ} 0 1 = same in omega arith))
