-- Each turn writes a row and gives one unit to its taker. Assumes nothing.
use native.Mathlib.Omega.{arith}
use borrow.Author.Rules.{rules}
use Rattle.cycle.proofs.Taker.{taker_found, found_inside}
use Rattle.cycle.proofs.Walk.{walked_start, raised_within, walked_step}
use Rattle.cycle.proofs.cycle.fill.Goals as goal

pub loop-n-init : goal.loop-n-init
loop-n-init c = walked_start c.requires.weighed (search rules) c.requires.sum_in_bounds (search rules) c.due_numbers-due.ensures

pub prove-unreachable-requires : goal.prove-unreachable-requires
prove-unreachable-requires c =
    omega (arith, found_inside c.requires.weighed (search rules) c.loop-n-test.true c.loop-n.invariant.walk _ c.first_due-p.ensures)

pub overflow_add-units : goal.overflow_add-units
overflow_add-units c =
    let took = taker_found c.requires.weighed (search rules) c.loop-n-test.true c.loop-n.invariant.walk _ c.first_due-p.ensures in
    omega (arith, raised_within c.requires.weighed (search rules) c.requires.sum_in_bounds c.loop-n.invariant c.loop-n-test.true took)

pub loop-n-preserved : goal.loop-n-preserved
loop-n-preserved c =
    let took = taker_found c.requires.weighed (search rules) c.loop-n-test.true c.loop-n.invariant.walk _ c.first_due-p.ensures in
    walked_step c.requires.weighed (search rules) c.requires.sum_in_bounds c.loop-n.invariant c.loop-n-test.true took c.row.ensures c.due_number.ensures
