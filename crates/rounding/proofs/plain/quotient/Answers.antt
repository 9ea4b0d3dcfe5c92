-- Each arm of the test is its arm of the definition. Assumes nothing.
use mathlib.Core.Path.{sym, ◌∙◌}
use borrow.Author.Tests.{eq-eqb, ne_eqb}
use Rattle.rounding.specs.Found.{found_quotient}
use Rattle.rounding.proofs.plain.quotient.Goals as goal

pub returns-then-b-eq1 : goal.returns-then-b-eq1
unfolding found_quotient
returns-then-b-eq1 c = c.round.ensures ∙ sym (rw (eq-eqb _ _ c.if-b-eq1.true))

pub returns : goal.returns
unfolding found_quotient
returns c = c.round_wide.ensures ∙ sym (rw (ne_eqb _ _ c.if-b-eq1.false))
