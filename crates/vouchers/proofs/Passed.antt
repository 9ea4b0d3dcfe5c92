-- What passed the check of `vouchers` may be given out: at most 10,000, over weights that keep their rule. Assumes nothing.
use Rattle.std.specs.Prelude.{Ok}
use mathlib.Core.Path.{◌≡◌}
use mathlib.Core.List.{List}
use Prim.Native.Nat.{ℕ, ◌≤◌}
use borrow.Author.Tests.{ltb-false}
use Rattle.refusal.specs.Rows.{check_of, rate_rows}
use Rattle.refusal.proofs.Check.{clear}
use Rattle.refusal.proofs.Joined.{both_passed}
use Rattle.weights.specs.Weights.{list_rows, Allowed}
use Rattle.weights.proofs.Passed.{passed_allowed}
use Rattle.vouchers.specs.Said.{most_vouchers, voucher_rows}

pub vouchers_fit : (count : ℕ) (ws : List ℕ) (room : ℕ) → check_of (voucher_rows count ws room) ≡ Ok tt → (count ≤ most_vouchers) × Allowed ws room
vouchers_fit count ws room e =
    let both = both_passed (rate_rows most_vouchers count) (list_rows ws room) e in
    (ltb-false most_vouchers count (clear (rate_rows most_vouchers count) both.0).0, passed_allowed ws room both.1)
