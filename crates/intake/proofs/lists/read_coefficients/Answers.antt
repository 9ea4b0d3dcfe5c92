-- Each number is written as the type holds it. Assumes nothing.
use Rattle.std.proofs.Common.{rules}
use Rattle.lines.specs.Lines.{as_signed}
use Rattle.intake.proofs.lists.read_coefficients.Goals as goal

pub returns-clause-coefficients : goal.returns-clause-coefficients
returns-clause-coefficients c = c.read_list.ensures.list (λ n. as_signed n.negative n.magnitude) (λ n r p. search rules)
