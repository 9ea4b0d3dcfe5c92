-- Each test of the check is its row's; the weights are summed only where there are at most 64. Assumes nothing.
use mathlib.Core.Path.{◌≡◌, ◌∙◌}
use native.Mathlib.Omega.{arith}
use borrow.Author.Tests.{lt-ltb, le-ltb}
use lib.ListN.{length}
use Rattle.whole.specs.Sums.{sum_of}
use Rattle.weights.specs.Weights.{list_rows}
use Rattle.weights.proofs.Weighed.{weighed_sum}
use Rattle.weights.proofs.check_weights.Goals as goal

pub returns-then-weights-lt1 : goal.returns-then-weights-lt1
unfolding list_rows
returns-then-weights-lt1 c = simp (lt-ltb _ _ c.if-weights-lt1.true)

pub returns-then-weights-gt-MOST_WEIGHTS : goal.returns-then-weights-gt-MOST_WEIGHTS
unfolding list_rows
returns-then-weights-gt-MOST_WEIGHTS c = simp (le-ltb _ _ c.if-weights-lt1.false, lt-ltb _ _ c.if-weights-gt-MOST_WEIGHTS.true)

pub returns-then-sum-lt1 : goal.returns-then-sum-lt1
unfolding list_rows
returns-then-sum-lt1 c =
    let summed : c.weigh-sum.result ≡ sum_of c.args.weights.now = c.weigh-sum.ensures ∙ weighed_sum c.args.weights.now (omega arith) in
    let sum = summed in
    let ws = c.args.weights.now in
    simp (le-ltb (length ws) 1 (omega arith), le-ltb 64 (length ws) (omega arith), lt-ltb (sum_of ws) 1 (omega arith))

pub returns-then-sum-gt-LARGEST_SUM : goal.returns-then-sum-gt-LARGEST_SUM
unfolding list_rows
returns-then-sum-gt-LARGEST_SUM c =
    let summed : c.weigh-sum.result ≡ sum_of c.args.weights.now = c.weigh-sum.ensures ∙ weighed_sum c.args.weights.now (omega arith) in
    let sum = summed in
    let ws = c.args.weights.now in
    simp
    (le-ltb (length ws) 1 (omega arith), le-ltb 64 (length ws) (omega arith), le-ltb (sum_of ws) 1 (omega arith), lt-ltb 1000000 (sum_of ws) (omega arith))

pub returns-then-room-weights : goal.returns-then-room-weights
unfolding list_rows
returns-then-room-weights c =
    let summed : c.weigh-sum.result ≡ sum_of c.args.weights.now = c.weigh-sum.ensures ∙ weighed_sum c.args.weights.now (omega arith) in
    let sum = summed in
    let a = c.args in
    let ws = a.weights.now in
    simp (
      le-ltb (length ws) 1 (omega arith),
      le-ltb 64 (length ws) (omega arith),
      le-ltb (sum_of ws) 1 (omega arith),
      le-ltb 1000000 (sum_of ws) (omega arith),
      lt-ltb a.room (length ws) (omega arith),
    )

pub returns : goal.returns
unfolding list_rows
returns c =
    let summed : c.weigh-sum.result ≡ sum_of c.args.weights.now = c.weigh-sum.ensures ∙ weighed_sum c.args.weights.now (omega arith) in
    let sum = summed in
    let a = c.args in
    let ws = a.weights.now in
    simp (
      le-ltb (length ws) 1 (omega arith),
      le-ltb 64 (length ws) (omega arith),
      le-ltb (sum_of ws) 1 (omega arith),
      le-ltb 1000000 (sum_of ws) (omega arith),
      le-ltb a.room (length ws) (omega arith),
    )
