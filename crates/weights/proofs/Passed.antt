-- What passes the check keeps the rule of weights and has room, for none of the rows holds. Assumes nothing.
use Rattle.std.specs.Prelude.{Ok}
use mathlib.Core.Path.{◌≡◌}
use mathlib.Core.List.{List}
use Prim.Native.Nat.{ℕ}
use native.Mathlib.Omega.{arith}
use borrow.Author.Tests.{ltb-false}
use lib.ListN.{length}
use Rattle.refusal.specs.Rows.{check_of}
use Rattle.refusal.proofs.Check.{clear}
use Rattle.whole.specs.Sums.{sum_of}
use Rattle.weights.specs.Weights.{most_weights, largest_sum, list_rows, Allowed}

pub passed_allowed : (ws : List ℕ) (room : ℕ) → check_of (list_rows ws room) ≡ Ok tt → Allowed ws room
unfolding list_rows
passed_allowed ws room e =
    let rows = clear (list_rows ws room) e in
    record {
      some = ltb-false (length ws) 1 rows.0;
      most = ltb-false most_weights (length ws) rows.1.0;
      above = ltb-false (sum_of ws) 1 rows.1.1.0;
      within = ltb-false largest_sum (sum_of ws) rows.1.1.1.0;
      fits = ltb-false room (length ws) rows.1.1.1.1.0;
    }

-- the same with an output of as many places as there are weights
pub just_enough : (ws : List ℕ) (room n : ℕ) → Allowed ws room → n ≡ length ws → Allowed ws n
just_enough ws room n a e = record { some = a.some; most = a.most; above = a.above; within = a.within; fits = omega arith }
