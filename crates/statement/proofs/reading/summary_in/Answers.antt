-- A file's trailer has its numbers. Assumes nothing.
use mathlib.Core.Path.{◌∙◌}
use native.Mathlib.Omega.{arith}
use Rattle.whole.proofs.Laws.{read_back}
use Rattle.statement.proofs.Accepted.{accepted, summary_is}
use Rattle.statement.proofs.reading.summary_in.Goals as goal

pub overflow_sub-place : goal.overflow_sub-place
overflow_sub-place c = (accepted c.args.version c.args.bytes.now c.requires).0

pub trailer_at-trailer-requires : goal.trailer_at-trailer-requires
trailer_at-trailer-requires c = omega (arith, (accepted c.args.version c.args.bytes.now c.requires).0)

pub overflow_sub-result : goal.overflow_sub-result
overflow_sub-result c = let start = c in
    rw c.trailer_at-trailer.ensures (accepted start.args.version start.args.bytes.now start.requires).1.trails.inside

pub returns : goal.returns
returns c = let start = c in
    summary_is start.args.version start.args.bytes.now start.requires c.trailer_at-trailer.result c.trailer_at-trailer.ensures _
    (read_back c.from_word.result c.from_word.type_inv ∙ c.from_word.ensures)
