-- Only a code of three letters is looked up. Assumes nothing.
use mathlib.Core.Path.{ap}
use Prim.Native.Nat.{ℕ}
use borrow.Author.Tests.{eq-eqb, ne_eqb}
use lib.ListN.{length}
use Rattle.text.specs.Codes.{currency_of}
use Rattle.text.proofs.codes.currency_of.Goals as goal

pub returns-then-code-ne3 : goal.returns-then-code-ne3
unfolding currency_of
returns-then-code-ne3 c = simp (ne_eqb _ _ c.if-code-ne3.true)

pub returns : goal.returns
unfolding currency_of
returns c = let code = c.args.code.now in
    rw (eq-eqb (length code) 3 c.if-code-ne3.false) (ap (λ (n : ℕ). record { 0 = n }) c.by_letters.ensures)
