-- The closure tells of each settled total whether it is over L. Assumes nothing.
use Rattle.std.proofs.lemmas.Iterator.{YieldsList-from_slice}
use Rattle.std.proofs.lemmas.Iterator.Search.{any_from_yields_List}
use mathlib.Core.Path.{◌∙◌}
use borrow.Author.Rules.{rules}
use borrow.Author.Tests.{tests}
use Rattle.book.specs.Settled.{far_off}
use Rattle.book.proofs.SettledTotals.{same_any}
use Rattle.book.proofs.settled.any_over.Goals as goal

pub returns : goal.returns
returns c =
    any_from_yields_List far_off _ _ _ c.any.ensures.ran (YieldsList-from_slice c.args.settled cc) (λ x b q k. search (rules, tests)) ∙ same_any far_off c.args.settled
