-- The rows of `vouchers` stand in the order in which they are asked, so that number n is given exactly when a row of n holds and no row that
-- stands before it does. Assumes nothing.
use mathlib.Core.Path.{◌≡◌}
use mathlib.Core.List.{List}
use mathlib.Core.Logic.{◌↔◌}
use Prim.Native.Nat.{ℕ}
use Rattle.refusal.specs.Rows.{refuses, Holds}
use Rattle.refusal.proofs.ExactlyWhen.{Given, NoneBelow, exactly_when}
use Rattle.weights.specs.Weights.{list_rows}
use Rattle.average.specs.Rule.{vouchers_of}
use Rattle.vouchers.specs.Said.{voucher_rows, vouchers_said}

pub vouchers_exactly_when : (count : ℕ) (ws : List ℕ) (room n : ℕ)
    → ((blamed : ℕ) × (vouchers_said count ws room ≡ refuses n blamed)) ↔ (Holds n (voucher_rows count ws room) × NoneBelow n (voucher_rows count ws room))
unfolding vouchers_said Given list_rows
vouchers_exactly_when count ws room n = exactly_when (vouchers_of count ws) n (voucher_rows count ws room) tt
