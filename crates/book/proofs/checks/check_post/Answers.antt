-- Rows 2 to 10 decide first, and behind them the last row. Assumes nothing.
use Rattle.std.specs.Prelude.{Err}
use mathlib.Core.Path.{◌≡◌, refl, sym, ap, ap₂, ◌∙◌}
use mathlib.Core.Bool.{Bool}
use mathlib.Core.List.{List, [], ◌∷◌}
use Prim.Native.Nat.{ℕ, ◌+◌}
use native.Mathlib.Omega.{arith}
use borrow.Author.Tests.{lt-ltb, le-ltb}
use Rattle.refusal.specs.declared.Refusal.TheVariants.{Limit}
use Rattle.refusal.specs.Rows.{Row, row, check_of}
use Rattle.amount.specs.declared.Amount.{Amount}
use Rattle.amount.specs.Amounts.{largest, over_l}
use Rattle.book.specs.declared.Book.{Book}
use Rattle.book.specs.Books.{settled_sum}
use Rattle.book.specs.Moves.{net_of, units_of, move_rows}
use Rattle.refusal.proofs.Joined.{front_passed}
use Rattle.book.proofs.Exits.{at_exit, was_refused, was_passed}
use Rattle.book.proofs.Answered.{move_fit}
use Rattle.book.proofs.checks.check_post.Goals as goal

-- the last row
abbrev last : Book → Amount → List Row
last b a = row Limit (over_l (settled_sum b + (net_of b + units_of a))) ∷ []

-- where rows 2 to 10 passed, the sum that is added up is that of the settled totals, the net total and the units
made : (b : Book) (a : Amount) (told net units : ℕ) → settled_sum b ≡ told → net ≡ net_of b → units ≡ units_of a
    → told + (net + units) ≡ settled_sum b + (net_of b + units_of a)
made b a told net units t n u = ap₂ ◌+◌ (sym t) (ap₂ ◌+◌ n u)

pub overflow_add-net_of : goal.overflow_add-net_of
overflow_add-net_of c =
    let a = c.args in
    let known = was_passed (settled_sum a.book) _ (move_rows a.book a.amount) c.check_move.ensures c.in_ok-settled.settled c.in_ok-settled.was in
    let fit = move_fit a.book a.amount known.0 in
    omega (arith, c.net_of.ensures, c.units_of.ensures)

pub overflow_add-settled : goal.overflow_add-settled
overflow_add-settled c =
    let a = c.args in
    let known = was_passed (settled_sum a.book) _ (move_rows a.book a.amount) c.check_move.ensures c.in_ok-settled.settled c.in_ok-settled.was in
    let fit = move_fit a.book a.amount known.0 in
    omega (arith, made a.book a.amount _ _ _ known.1 c.net_of.ensures c.units_of.ensures)

pub returns-in_err-settled : goal.returns-in_err-settled
returns-in_err-settled c =
    let a = c.args in
    let refused = was_refused (settled_sum a.book) _ (move_rows a.book a.amount) c.check_move.ensures _ c.in_err-settled.was in
    at_exit (Err c.in_err-settled.field-0.0) _ (move_rows a.book a.amount) (last a.book a.amount) _ c.from_residual.ensures.1 (sym refused) refl

pub returns-then-settled-net_of-gt-L : goal.returns-then-settled-net_of-gt-L
returns-then-settled-net_of-gt-L c =
    let b = c.args.book in
    let a = c.args.amount in
    let known = was_passed (settled_sum b) _ (move_rows b a) c.check_move.ensures c.in_ok-settled.settled c.in_ok-settled.was in
    let sum = made b a _ _ _ known.1 c.net_of.ensures c.units_of.ensures in
    sym (front_passed (move_rows b a) (last b a) known.0
    ∙ ap (λ (s : Bool). check_of (row Limit s ∷ []))
    (lt-ltb largest (settled_sum b + (net_of b + units_of a)) (omega (arith, sum, c.if-settled-net_of-gt-L.true))))

pub returns-else-settled-net_of-gt-L : goal.returns-else-settled-net_of-gt-L
returns-else-settled-net_of-gt-L c =
    let b = c.args.book in
    let a = c.args.amount in
    let known = was_passed (settled_sum b) _ (move_rows b a) c.check_move.ensures c.in_ok-settled.settled c.in_ok-settled.was in
    let sum = made b a _ _ _ known.1 c.net_of.ensures c.units_of.ensures in
    sym (front_passed (move_rows b a) (last b a) known.0
    ∙ ap (λ (s : Bool). check_of (row Limit s ∷ []))
    (le-ltb largest (settled_sum b + (net_of b + units_of a)) (omega (arith, sum, c.if-settled-net_of-gt-L.false))))
