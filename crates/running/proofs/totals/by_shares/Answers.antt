-- At each place the whole cycles, the full units of what is left, and one more where the place is ahead. Assumes nothing.
use mathlib.Core.Path.{◌≡◌, refl, ◌∙◌}
use native.Mathlib.Omega.{arith}
use borrow.Author.Rules.{rules}
use lib.ListN.{length, get_or}
use Rattle.whole.proofs.Lists.{fill_none, copy_all}
use Rattle.units.specs.Rule.{totals}
use Rattle.units.proofs.Added.{length_totals}
use Rattle.running.specs.Limits.{zeros}
use Rattle.running.proofs.Places.{fill_next}
use Rattle.running.proofs.Cycles.{left_within, place_total, total_within}
use Rattle.running.proofs.totals.by_shares.Goals as goal

pub loop-i-init : goal.loop-i-init
loop-i-init c = fill_none 0 _ zeros

pub overflow_mul-held : goal.overflow_mul-held
overflow_mul-held c =
    let within = total_within c.requires c.args.n c.from-cycle.ensures c.new-left.result c.new-left.ensures _ c.ahead-ahead.ensures c.loop-i.i c.loop-i-test.true c.from.ensures refl in
    omega (arith, within, c.ranges.n.fits)

pub overflow_add-left : goal.overflow_add-left
overflow_add-left c = omega (arith, left_within c.new-left.result _ c.ahead-ahead.ensures c.loop-i.i c.loop-i-test.true)

pub overflow_add-held : goal.overflow_add-held
overflow_add-held c =
    let within = total_within c.requires c.args.n c.from-cycle.ensures c.new-left.result c.new-left.ensures _ c.ahead-ahead.ensures c.loop-i.i c.loop-i-test.true c.from.ensures c.from-in-loop-i.ensures in
    omega (arith, within, c.ranges.n.fits)

pub loop-i-preserved : goal.loop-i-preserved
loop-i-preserved c =
    let l = c.loop-i in
    let total = place_total c.requires c.args.n c.from-cycle.ensures c.new-left.result c.new-left.ensures _ c.ahead-ahead.ensures l.i c.loop-i-test.true c.from.ensures c.from-in-loop-i.ensures in
    fill_next (λ k. get_or (totals c.args.weights c.args.n) k 0) zeros l.held l.i _ l.invariant total

pub returns : goal.returns
returns c =
    let a = c.args in
    let l = c.loop-i in
    let long : length a.weights ≡ 16 = search rules in
    copy_all 0 (totals a.weights a.n) zeros l.held l.i l.invariant (length_totals a.weights a.n ∙ long) (omega arith)
