-- The rows of `compound` stand in the order in which they are asked, so that number n is given exactly when a row of n holds and no row that
-- stands before it does. Assumes nothing.
use mathlib.Core.Path.{◌≡◌}
use mathlib.Core.Logic.{◌↔◌}
use Prim.Native.Nat.{ℕ}
use Rattle.refusal.specs.Rows.{refuses, Holds}
use Rattle.refusal.proofs.ExactlyWhen.{Given, NoneBelow, exactly_when}
use Rattle.amount.specs.declared.Amount.{Amount}
use Rattle.compound.specs.Table.{row_count, table_rows, table_said}

pub compound_exactly_when : (a : Amount) (rate periods room n : ℕ)
    → ((blamed : ℕ) × (table_said a rate periods room ≡ refuses n blamed)) ↔ (Holds n (table_rows a rate periods room) × NoneBelow n (table_rows a rate periods room))
unfolding table_said Given
compound_exactly_when a rate periods room n = exactly_when (row_count periods) n (table_rows a rate periods room) tt
