-- The sum fits, and its quotient is the rule's. Assumes nothing.
use Rattle.rounding.proofs.HalfUp.{half_added}
use Rattle.rounding.proofs.product.half_up.Goals as goal

pub returns : goal.returns
returns c = half_added c.args.n c.args.d c.requires.1
