-- A word below 2^63 is the coefficient; else 2^64 less the word is its magnitude below 0. Assumes nothing.
use mathlib.Core.Path.{◌∙◌}
use Rattle.whole.proofs.Laws.{read_back}
use Rattle.statement.proofs.Words.{held_small, held_large}
use Rattle.statement.proofs.numbers.from_word.Goals as goal

pub returns-then-word : goal.returns-then-word
returns-then-word c = read_back c.signed.result c.signed.type_inv ∙ c.signed.ensures ∙ held_small c.args.word c.if-word.true

pub returns-else-word : goal.returns-else-word
returns-else-word c = read_back c.signed-else-word.result c.signed-else-word.type_inv ∙ c.signed-else-word.ensures ∙ held_large c.args.word c.if-word.false
