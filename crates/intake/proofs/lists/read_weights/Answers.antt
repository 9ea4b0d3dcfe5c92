-- Each number is written as the type holds it. Assumes nothing.
use Rattle.std.proofs.Common.{rules}
use Rattle.lines.specs.Lines.{as_unsigned}
use Rattle.intake.proofs.lists.read_weights.Goals as goal

pub returns-clause-weights : goal.returns-clause-weights
returns-clause-weights c = c.read_list.ensures.list (λ n. as_unsigned 4294967295 n.negative n.magnitude) (λ n r p. search rules)
