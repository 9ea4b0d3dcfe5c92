-- The slices' own comparison. Assumes nothing.
use Rattle.std.proofs.Common.{◌∙◌}
use Rattle.console.proofs.SameBytes.{pointwise_is_same}
use Rattle.console.proofs.verbs.same.Goals as goal

pub returns : goal.returns
returns c = c.eq.ensures ∙ pointwise_is_same c.args.word.now c.args.other.now
