-- The eight bytes, each at its place, are the number's. Assumes nothing.
use Rattle.statement.proofs.Heads.{eight_is}
use Rattle.statement.proofs.numbers.eight_at.Goals as goal

pub returns : goal.returns
returns c = eight_is c.args.bytes.now c.args.at c.from_le_bytes.result c.from_le_bytes.ensures
