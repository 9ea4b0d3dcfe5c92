-- Both ways meet the one promise. Assumes nothing.
use Rattle.bulk.proofs.Standing.{sound_weighed}
use Rattle.bulk.proofs.serving.serve.Goals as goal

pub by_table-requires-clause-weighed : goal.by_table-requires-clause-weighed
by_table-requires-clause-weighed c = sound_weighed c.args.book c.requires.sound c.sum_from-sum.result c.sum_from-sum.ensures
