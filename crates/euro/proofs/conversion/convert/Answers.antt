-- Document 01's step is the one of 3 decimals; the amount's numbers, handed on, are the amount. Assumes nothing.
use mathlib.Core.Path.{◌∙◌, ap}
use borrow.Author.Rules.{rules}
use lib.IntN.{ℤ}
use mir.Syntax.{w64}
use mir.Val.{SFits}
use mir.ValLaws.{to_z-of_z}
use Rattle.euro.specs.Steps.{step_decimals}
use Rattle.euro.specs.Conversion.{convert_by_said, convert_said}
use Rattle.euro.proofs.conversion.convert.Goals as goal

pub returns : goal.returns
unfolding convert_said
returns c = let a = c.args in
    let z = a.amount.coefficient in
    let fits : SFits w64 z = search rules in
    c.by_step.ensures
    ∙ ap (λ (n : ℤ). convert_by_said (record { currency = a.amount.currency; scale = a.amount.scale; coefficient = n }) a.to step_decimals) (to_z-of_z w64 z fits)
