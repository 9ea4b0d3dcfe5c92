-- The places passed hold the shares rounded down, and what is left is the number of vouchers less these, whose sum never goes past it.
-- Assumes nothing.
use mathlib.Core.Path.{◌≡◌, sym, ◌∙◌}
use mathlib.Core.List.{List}
use Prim.Native.Nat.{ℕ, ◌*◌, ◌/◌}
use native.Mathlib.Omega.{arith}
use lib.ListN.{get_or}
use Rattle.whole.specs.Sums.{sum_of}
use Rattle.whole.proofs.Lists.{fill_none, fill_more, copy_all}
use Rattle.whole.proofs.Sums.{sum_to}
use Rattle.weights.proofs.Weighed.{weighed_sum}
use Rattle.remainder.specs.Rule.{rounded_down}
use Rattle.remainder.proofs.Remainders.{rounded_length, rounded_at}
use Rattle.remainder.proofs.Left.{enough, less_left, all_left}
use Rattle.vouchers.proofs.giving.start.Goals as goal

share_is : (m : ℕ) (ws : List ℕ) (total i : ℕ) → total ≡ sum_of ws → m * get_or ws i 0 / total ≡ get_or (rounded_down m ws) i 0
share_is m ws total i e = rw e (sym (rounded_at m ws i))

pub loop-i-init : goal.loop-i-init
unfolding sum_to
loop-i-init c = (fill_none 0 _ _, omega arith)

pub nonzero_div-share : goal.nonzero_div-share
nonzero_div-share c =
    let total_is = c.weigh-total.ensures ∙ weighed_sum c.args.weights.now (omega arith) in
    omega (arith, total_is)

pub overflow_cast-share : goal.overflow_cast-share
overflow_cast-share c =
    let total_is = c.weigh-total.ensures ∙ weighed_sum c.args.weights.now (omega arith) in
    let a = c.args in
    let at = c.loop-i in
    rw (c.from.ensures, c.from-in-loop-i.ensures) (omega (arith, share_is a.count a.weights.now c.weigh-total.result at.i total_is, enough a.count a.weights.now (omega arith) at.i at.left at.invariant.1 (omega arith)))

pub overflow_sub-left : goal.overflow_sub-left
overflow_sub-left c =
    let total_is = c.weigh-total.ensures ∙ weighed_sum c.args.weights.now (omega arith) in
    let a = c.args in
    let at = c.loop-i in
    rw (c.from.ensures, c.from-in-loop-i.ensures) (omega (arith, share_is a.count a.weights.now c.weigh-total.result at.i total_is, enough a.count a.weights.now (omega arith) at.i at.left at.invariant.1 (omega arith)))

pub loop-i-preserved : goal.loop-i-preserved
loop-i-preserved c =
    let total_is = c.weigh-total.ensures ∙ weighed_sum c.args.weights.now (omega arith) in
    let a = c.args in
    let at = c.loop-i in
    let share = share_is a.count a.weights.now c.weigh-total.result at.i total_is in
    rw (c.from.ensures, c.from-in-loop-i.ensures) (
      fill_more 0 (λ k. get_or (rounded_down a.count a.weights.now) k 0) a.held.now at.held at.i at.i _ at.invariant.0 (omega arith) share,
      rw share (less_left a.count a.weights.now (omega arith) at.i at.left at.invariant.1 (omega arith)),
    )

pub returns : goal.returns
returns c = let a = c.args in
    let at = c.loop-i in record {
      left = all_left a.count a.weights.now (omega arith) at.i at.left at.invariant.1 (omega arith);
      held = copy_all 0 (rounded_down a.count a.weights.now) a.held.now at.held at.i at.invariant.0 (omega (arith, rounded_length a.count a.weights.now)) (omega arith);
    }
