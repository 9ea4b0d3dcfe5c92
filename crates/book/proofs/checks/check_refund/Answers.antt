-- Rows 2 to 10 decide first, and behind them the last row. Assumes nothing.
use Rattle.std.specs.Prelude.{Err}
use mathlib.Core.Path.{refl, sym, ap, ◌∙◌}
use mathlib.Core.Bool.{Bool}
use mathlib.Core.List.{List, [], ◌∷◌}
use Prim.Native.Nat.{◌≤◌, ◌<◌}
use native.Mathlib.Omega.{arith}
use borrow.Author.Tests.{lt-ltb, le-ltb}
use Rattle.refusal.specs.declared.Refusal.TheVariants.{Refund}
use Rattle.refusal.specs.Rows.{Row, row, check_of}
use Rattle.amount.specs.declared.Amount.{Amount}
use Rattle.book.specs.declared.Book.{Book}
use Rattle.book.specs.Moves.{net_of, units_of, move_rows}
use Rattle.book.specs.Books.{settled_sum}
use Rattle.refusal.proofs.Joined.{front_passed}
use Rattle.book.proofs.Exits.{at_exit, was_refused, was_passed}
use lib.Dec.{ltb}
use Rattle.book.proofs.checks.check_refund.Goals as goal

-- the last row
abbrev last : Book → Amount → List Row
last b a = row Refund (ltb (net_of b) (units_of a)) ∷ []

pub returns-in_err-check_move : goal.returns-in_err-check_move
returns-in_err-check_move c =
    let a = c.args in
    let refused = was_refused (settled_sum a.book) _ (move_rows a.book a.amount) c.check_move.ensures _ c.in_err-check_move.was in
    at_exit (Err c.in_err-check_move.field-0.0) _ (move_rows a.book a.amount) (last a.book a.amount) _ c.from_residual.ensures.1 (sym refused) refl

pub returns-then-net_of-units_of : goal.returns-then-net_of-units_of
returns-then-net_of-units_of c =
    let a = c.args in
    let known = was_passed (settled_sum a.book) _ (move_rows a.book a.amount) c.check_move.ensures _ c.in_ok-check_move.was in
    let over : net_of a.book < units_of a.amount = omega (arith, c.net_of.ensures, c.units_of.ensures, c.if-net_of-units_of.true) in
    sym (front_passed (move_rows a.book a.amount) (last a.book a.amount) known.0
    ∙ ap (λ (s : Bool). check_of (row Refund s ∷ [])) (lt-ltb (net_of a.book) (units_of a.amount) over))

pub returns-else-net_of-units_of : goal.returns-else-net_of-units_of
returns-else-net_of-units_of c =
    let a = c.args in
    let known = was_passed (settled_sum a.book) _ (move_rows a.book a.amount) c.check_move.ensures _ c.in_ok-check_move.was in
    let within : units_of a.amount ≤ net_of a.book = omega (arith, c.net_of.ensures, c.units_of.ensures, c.if-net_of-units_of.false) in
    sym (front_passed (move_rows a.book a.amount) (last a.book a.amount) known.0
    ∙ ap (λ (s : Bool). check_of (row Refund s ∷ [])) (le-ltb (net_of a.book) (units_of a.amount) within))
