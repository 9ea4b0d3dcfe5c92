-- Gross is net and tax together, exactly, and net is what the gross leaves without the tax: the one is the definition, and the
-- other follows since a number taken off and put on again changes nothing. Assumes nothing.
use mathlib.Core.Path.{◌≡◌, refl}
use Prim.Native.Nat.{ℕ, ◌+◌}
use lib.IntN.{pos, ◌+ℤ◌, ◌-ℤ◌, ◌*ℤ◌, +ℤ-neg_ℤ_cancel, -ℤ-+ℤ_cancel}
use Rattle.rounding.specs.declared.Rule.{Rule}
use Rattle.rounding.specs.Leaf.{rounded}
use Rattle.amount.specs.declared.Amount.{Amount}
use Rattle.tax.specs.declared.Split.{Split}
use Rattle.tax.specs.Tax.{million, from_net, from_gross}

pub record Adds (s : Split) : Type 0 where
  pub gross_is : s.net.coefficient +ℤ s.tax.coefficient ≡ s.gross.coefficient
  pub net_is : s.gross.coefficient -ℤ s.tax.coefficient ≡ s.net.coefficient

pub net_adds : (rule : Rule) (net : Amount) (r : ℕ) → Adds (from_net rule net r)
unfolding from_net
net_adds rule net r =
    record { gross_is = refl; net_is = +ℤ-neg_ℤ_cancel net.coefficient (rounded rule (net.coefficient *ℤ pos r) million) }

pub gross_adds : (rule : Rule) (gross : Amount) (r : ℕ) → Adds (from_gross rule gross r)
unfolding from_gross
gross_adds rule gross r =
    record { gross_is = -ℤ-+ℤ_cancel gross.coefficient (rounded rule (gross.coefficient *ℤ pos r) (million + r)); net_is = refl }
