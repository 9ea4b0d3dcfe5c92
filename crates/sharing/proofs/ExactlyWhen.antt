-- A sharing's rows stand in the order in which they are asked, so that number n is given exactly when a row of n holds and no row that stands
-- before it does. Assumes nothing.
use mathlib.Core.Path.{◌≡◌}
use mathlib.Core.List.{List}
use mathlib.Core.Logic.{◌↔◌}
use Prim.Native.Nat.{ℕ}
use Rattle.refusal.specs.Rows.{refuses, Holds}
use Rattle.refusal.proofs.ExactlyWhen.{Given, NoneBelow, exactly_when}
use Rattle.amount.specs.declared.Amount.{Amount}
use Rattle.weights.specs.Weights.{list_rows}
use Rattle.remainder.specs.Rule.{signed_shares}
use Rattle.sharing.specs.Shared.{share_rows, shared_said}

pub share_exactly_when : (a : Amount) (ws : List ℕ) (room n : ℕ)
    → ((blamed : ℕ) × (shared_said a ws room ≡ refuses n blamed)) ↔ (Holds n (share_rows a ws room) × NoneBelow n (share_rows a ws room))
unfolding shared_said Given list_rows
share_exactly_when a ws room n = exactly_when (signed_shares a.coefficient ws) n (share_rows a ws room) tt
