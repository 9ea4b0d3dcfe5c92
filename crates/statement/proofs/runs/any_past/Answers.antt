-- The closure tells of each number whether it is over the last. Assumes nothing.
use Rattle.std.proofs.lemmas.Iterator.{YieldsList-from_slice}
use Rattle.std.proofs.lemmas.Iterator.Search.{any_from_yields_List}
use mathlib.Core.Path.{◌∙◌}
use borrow.Author.Rules.{rules}
use borrow.Author.Tests.{tests}
use lib.Dec.{ltb}
use Rattle.statement.proofs.Any.{any_is}
use Rattle.statement.proofs.runs.any_past.Goals as goal

pub returns : goal.returns
returns c =
    let xs = c.args.numbers.now in
    any_from_yields_List (ltb c.args.last) _ _ _ c.any.ensures.ran (YieldsList-from_slice xs cc) (λ x b q k. search (rules, tests)) ∙ any_is (ltb c.args.last) 0 xs
