-- The places passed hold the shares rounded down and the remainders, and what is left is the magnitude less the shares passed,
-- whose sum never goes past it. Assumes nothing.
use mathlib.Core.Path.{◌∙◌}
use native.Mathlib.Omega.{arith}
use lib.ListN.{get_or}
use Rattle.whole.proofs.Lists.{fill_none, fill_more, copy_all}
use Rattle.whole.proofs.Sums.{sum_to}
use Rattle.weights.proofs.Weighed.{weighed_sum}
use Rattle.remainder.specs.Rule.{rounded_down, remainders}
use Rattle.remainder.proofs.Remainders.{rounded_length, remainders_length}
use Rattle.remainder.proofs.Left.{enough, less_left, all_left}
use Rattle.sharing.proofs.Parts.{share_at, rest_at, product_small}
use Rattle.sharing.proofs.spread.divide.Goals as goal

pub nonzero_div-whole : goal.nonzero_div-whole
nonzero_div-whole c =
    let total_is = c.weigh-total.ensures ∙ weighed_sum c.args.weights.now (omega arith) in
    omega (arith, total_is)

pub nonzero_rem-part : goal.nonzero_rem-part
nonzero_rem-part c =
    let total_is = c.weigh-total.ensures ∙ weighed_sum c.args.weights.now (omega arith) in
    omega (arith, total_is)

pub loop-i-init : goal.loop-i-init
unfolding sum_to
loop-i-init c = (fill_none 0 _ _, fill_none 0 _ _, omega arith)

pub overflow_mul-product : goal.overflow_mul-product
overflow_mul-product c =
    let total_is = c.weigh-total.ensures ∙ weighed_sum c.args.weights.now (omega arith) in
    let a = c.args in
    let at = c.loop-i in
    rw c.from-weight.ensures (omega (arith, product_small a.m a.weights.now c.weigh-total.result at.i total_is (omega arith) (omega arith)))

pub overflow_mul-share : goal.overflow_mul-share
overflow_mul-share c =
    let total_is = c.weigh-total.ensures ∙ weighed_sum c.args.weights.now (omega arith) in
    let a = c.args in
    let at = c.loop-i in
    rw c.from-weight.ensures (omega (arith, share_at a.m a.weights.now c.weigh-total.result at.i total_is (omega arith), enough a.m a.weights.now (omega arith) at.i at.left at.invariant.2 (omega arith)))

pub nonzero_div-share : goal.nonzero_div-share
nonzero_div-share c =
    let total_is = c.weigh-total.ensures ∙ weighed_sum c.args.weights.now (omega arith) in
    omega (arith, total_is)

pub overflow_add-share : goal.overflow_add-share
overflow_add-share c =
    let total_is = c.weigh-total.ensures ∙ weighed_sum c.args.weights.now (omega arith) in
    let a = c.args in
    let at = c.loop-i in
    rw c.from-weight.ensures (omega (arith, share_at a.m a.weights.now c.weigh-total.result at.i total_is (omega arith), enough a.m a.weights.now (omega arith) at.i at.left at.invariant.2 (omega arith)))

pub nonzero_rem-rests : goal.nonzero_rem-rests
nonzero_rem-rests c =
    let total_is = c.weigh-total.ensures ∙ weighed_sum c.args.weights.now (omega arith) in
    omega (arith, total_is)

pub overflow_sub-left : goal.overflow_sub-left
overflow_sub-left c =
    let total_is = c.weigh-total.ensures ∙ weighed_sum c.args.weights.now (omega arith) in
    let a = c.args in
    let at = c.loop-i in
    rw c.from-weight.ensures (omega (arith, share_at a.m a.weights.now c.weigh-total.result at.i total_is (omega arith), enough a.m a.weights.now (omega arith) at.i at.left at.invariant.2 (omega arith)))

pub loop-i-preserved : goal.loop-i-preserved
loop-i-preserved c =
    let total_is = c.weigh-total.ensures ∙ weighed_sum c.args.weights.now (omega arith) in
    let a = c.args in
    let at = c.loop-i in
    let share = share_at a.m a.weights.now c.weigh-total.result at.i total_is (omega arith) in
    let rest = rest_at a.m a.weights.now c.weigh-total.result at.i total_is (omega arith) in
    rw c.from-weight.ensures (
      fill_more 0 (λ k. get_or (rounded_down a.m a.weights.now) k 0) a.shares.now at.shares at.i at.i _ at.invariant.0 (omega arith) share,
      fill_more 0 (λ k. get_or (remainders a.m a.weights.now) k 0) a.rests.now at.rests at.i at.i _ at.invariant.1 (omega arith) rest,
      rw share (less_left a.m a.weights.now (omega arith) at.i at.left at.invariant.2 (omega arith)),
    )

pub returns : goal.returns
returns c = let a = c.args in
    let at = c.loop-i in record {
      left = all_left a.m a.weights.now (omega arith) at.i at.left at.invariant.2 (omega arith);
      shares = copy_all 0 (rounded_down a.m a.weights.now) a.shares.now at.shares at.i at.invariant.0 (omega (arith, rounded_length a.m a.weights.now)) (omega arith);
      rests = copy_all 0 (remainders a.m a.weights.now) a.rests.now at.rests at.i at.invariant.1 (omega (arith, remainders_length a.m a.weights.now)) (omega arith);
    }
