-- Of at most 64 weights the sum so far is the sum over the places passed, and below 2^32 for each of them. Assumes nothing.
use mathlib.Core.Path.{refl, sym, ◌∙◌, ap}
use native.Mathlib.Numerals.{add-one}
use native.Mathlib.Omega.{arith}
use borrow.Author.Rules.{rules}
use lib.ListN.{length, get_or}
use Rattle.whole.proofs.Sums.{sum_to, sum_list}
use Rattle.weights.proofs.Weighed.{weighed_sum, weighed_none}
use Rattle.weights.proofs.weigh.Goals as goal

pub returns-then-weights-gt-MOST_WEIGHTS : goal.returns-then-weights-gt-MOST_WEIGHTS
returns-then-weights-gt-MOST_WEIGHTS c = sym (weighed_none c.args.weights.now c.if-weights-gt-MOST_WEIGHTS.true)

pub loop-weight-init : goal.loop-weight-init
unfolding sum_to
loop-weight-init c = search rules

pub loop-weight-preserved : goal.loop-weight-preserved
unfolding sum_to
loop-weight-preserved c = (rw add-one (omega arith), omega (arith, c.type_inv.weights c.loop-weight.weight-index))

pub returns : goal.returns
returns c =
    let ws = c.args.weights.now in
    c.loop-weight.invariant.0 ∙ ap (sum_to (λ k. get_or ws k 0)) (omega arith) ∙ sum_list ws (length ws) refl ∙ sym (weighed_sum ws (omega arith))
