-- Too many weights are refused unsummed; the others are summed in a book's places, where noughts behind them change no row. Assumes nothing.
use mathlib.Core.Path.{ap, ◌∙◌}
use mathlib.Core.List.{List}
use Prim.Native.Nat.{ℕ, ◌-◌, ◌≤◌}
use native.Mathlib.Omega.{arith}
use borrow.Author.Tests.{lt-ltb, le-ltb}
use lib.ListN.{length}
use Rattle.refusal.specs.Rows.{check_of}
use Rattle.book.specs.Books.{weight_rows}
use Rattle.book.proofs.Answered.{padded_rows}
use Rattle.book.proofs.weights.check_list.Goals as goal

pub returns-then-weights-gt-PARTNERS : goal.returns-then-weights-gt-PARTNERS
unfolding weight_rows
returns-then-weights-gt-PARTNERS c = let ws = c.args.weights.now in
    let some : 1 ≤ length ws = omega arith in
    rw (le-ltb (length ws) 1 some, lt-ltb _ _ c.if-weights-gt-PARTNERS.true)

pub returns : goal.returns
returns c = let ws = c.args.weights.now in
    c.check_weights.ensures ∙ ap (λ (l : List ℕ). check_of (weight_rows (length ws) l)) c.placed.ensures ∙ padded_rows ws (16 - length ws)
