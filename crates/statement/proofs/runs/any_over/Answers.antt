-- The closure tells of each coefficient whether it is over L. Assumes nothing.
use Rattle.std.proofs.lemmas.Iterator.{YieldsList-from_slice}
use Rattle.std.proofs.lemmas.Iterator.Search.{any_from_yields_List}
use mathlib.Core.Path.{◌∙◌}
use borrow.Author.Rules.{rules}
use borrow.Author.Tests.{tests}
use lib.IntN.{ℤ, pos}
use mathlib.Core.Bool.{Bool}
use Rattle.whole.specs.Whole.{magnitude_of}
use Rattle.amount.specs.Amounts.{over_l}
use Rattle.statement.proofs.Any.{any_is}
use Rattle.statement.proofs.runs.any_over.Goals as goal

abbrev far_off : ℤ → Bool
far_off z = over_l (magnitude_of z)

pub returns : goal.returns
returns c =
    let xs = c.args.coefficients.now in
    any_from_yields_List far_off _ _ _ c.any.ensures.ran (YieldsList-from_slice xs cc) (λ x b q k. search (rules, tests)) ∙ any_is far_off (pos 0) xs
