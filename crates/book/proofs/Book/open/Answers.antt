-- A refused check is the row that it names; what passed has its places in the book. Assumes nothing.
use Rattle.std.specs.Prelude.{Ok}
use mathlib.Core.Path.{◌≡◌, sym, ap, ◌∙◌}
use mathlib.Core.List.{List}
use Prim.Native.Nat.{ℕ, ◌≤◌}
use native.Mathlib.Omega.{arith}
use lib.IntN.{pos}
use lib.ListN.{length}
use Rattle.refusal.specs.Rows.{gives, check_of}
use Rattle.refusal.proofs.Check.{passed}
use Rattle.book.specs.Books.{unsettled}
use Rattle.book.specs.Moves.{open_book, open_rows, open_said}
use Rattle.book.proofs.Answered.{open_fit}
use Rattle.book.proofs.Exits.{call_exit}
use Rattle.book.proofs.Book.open.Goals as goal

pub overflow_cast-result : goal.overflow_cast-result
overflow_cast-result c =
    let passed : check_of (open_rows c.args.currency c.args.weights.now) ≡ Ok tt = sym c.check_open.ensures ∙ c.in_ok-check_open.was in
    let fit : length c.args.weights.now ≤ 16 = open_fit c.args.currency c.args.weights.now passed in
    omega (arith, fit)

pub placed-requires : goal.placed-requires
placed-requires c =
    let passed : check_of (open_rows c.args.currency c.args.weights.now) ≡ Ok tt = sym c.check_open.ensures ∙ c.in_ok-check_open.was in
    let fit : length c.args.weights.now ≤ 16 = open_fit c.args.currency c.args.weights.now passed in
    fit

pub returns-in_err-check_open : goal.returns-in_err-check_open
unfolding open_said
returns-in_err-check_open c =
    let a = c.args in
    call_exit (gives (open_book a.currency a.weights.now)) _ _ (open_rows a.currency a.weights.now) _ c.from_residual.ensures.1 c.check_open.ensures
    c.in_err-check_open.was

pub returns : goal.returns
unfolding open_said open_book
returns c =
    let a = c.args in
    ap (λ (ws : List ℕ). gives (record { currency = a.currency; count = length a.weights.now; weights = ws; net = pos 0; card = 1; settled = unsettled })) c.placed.ensures
    ∙ sym (passed (gives (open_book a.currency a.weights.now)) (open_rows a.currency a.weights.now) (sym c.check_open.ensures ∙ c.in_ok-check_open.was))
