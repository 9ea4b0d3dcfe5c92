-- What passed a sharing's check may be shared: its magnitude is at most L, and the weights keep their rule. Assumes nothing.
use Rattle.std.specs.Prelude.{Ok}
use mathlib.Core.Path.{◌≡◌}
use mathlib.Core.List.{List}
use Prim.Native.Nat.{ℕ, ◌≤◌}
use borrow.Author.Tests.{ltb-false}
use Rattle.refusal.specs.Rows.{check_of}
use Rattle.refusal.proofs.Check.{clear}
use Rattle.refusal.proofs.Joined.{both_passed}
use Rattle.whole.specs.Whole.{magnitude_of}
use Rattle.amount.specs.declared.Amount.{Amount}
use Rattle.amount.specs.Amounts.{largest as L, amount_rows}
use Rattle.weights.specs.Weights.{list_rows, Allowed}
use Rattle.weights.proofs.Passed.{passed_allowed}
use Rattle.sharing.specs.Shared.{share_rows}

pub share_fits : (a : Amount) (ws : List ℕ) (room : ℕ) → check_of (share_rows a ws room) ≡ Ok tt → (magnitude_of a.coefficient ≤ L) × Allowed ws room
share_fits a ws room e =
    let front = amount_rows a.scale (magnitude_of a.coefficient) a.currency in
    let both = both_passed front (list_rows ws room) e in
    (ltb-false L (magnitude_of a.coefficient) (clear front both.0).1.0, passed_allowed ws room both.1)
