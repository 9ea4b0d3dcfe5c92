-- Each number is written as the type holds it. Assumes nothing.
use Rattle.std.proofs.Common.{rules}
use Rattle.lines.specs.Lines.{as_unsigned}
use Rattle.intake.proofs.lists.read_places.Goals as goal

pub returns-clause-places : goal.returns-clause-places
returns-clause-places c = c.read_list.ensures.list (λ n. as_unsigned 65535 n.negative n.magnitude) (λ n r p. search rules)
