-- Each turn lays unit m + 1 down in its slot, and carries the quotient to the next. Assumes nothing.
use native.Mathlib.Omega.{arith}
use Rattle.running.proofs.Laid.{laid_start, first_product, slot_after, slot_in, slot_room, next_unit, carried_unit, next_within, carried_within, laid_end, length_laid}
use Rattle.running.proofs.window.lay.Goals as goal
use Rattle.running.proofs.window.lay.Goals.{then-r-back, else-r-back}

pub overflow_mul-q : goal.overflow_mul-q
overflow_mul-q c = omega (arith, first_product c.requires)

pub overflow_mul-r : goal.overflow_mul-r
overflow_mul-r c = omega (arith, first_product c.requires)

pub loop-m-init : goal.loop-m-init
loop-m-init c = laid_start c.requires

pub overflow_sub-slots : goal.overflow_sub-slots
overflow_sub-slots c = slot_after c.requires c.loop-m.invariant c.loop-m-test.true

pub bounds-slots-q : goal.bounds-slots-q
bounds-slots-q c = slot_in c.requires c.loop-m.invariant c.loop-m-test.true

pub overflow_add-slots : goal.overflow_add-slots
overflow_add-slots c = omega (arith, slot_room c.requires c.loop-m.invariant c.loop-m-test.true)

pub bounds-slots-q-in-loop-m : goal.bounds-slots-q-in-loop-m
bounds-slots-q-in-loop-m c = slot_in c.requires c.loop-m.invariant c.loop-m-test.true

pub overflow_add-q : goal.overflow_add-q
overflow_add-q c = omega (arith, next_within c.requires c.loop-m.invariant c.loop-m-test.true c.if-r-back.true)

pub overflow_add-q-else-r-back-2 : goal.overflow_add-q-else-r-back-2
overflow_add-q-else-r-back-2 c = omega (arith, carried_within c.requires c.loop-m.invariant c.loop-m-test.true c.if-r-back.false)

pub shape_of-slots : goal.shape_of-slots
shape_of-slots c = length_laid c.loop-m.invariant

pub returns : goal.returns
returns c = laid_end c.requires c.loop-m.invariant c.loop-m-test.false

pub loop-m-preserved : goal.loop-m-preserved
loop-m-preserved c =
    elim c.if-r-back.branch [
      | then-r-back w ↦ rw (w.q-is, w.r-is) (next_unit c.requires c.loop-m.invariant c.loop-m-test.true w.if-r-back.true)
      | else-r-back w ↦ rw (w.q-is, w.r-is) (carried_unit c.requires c.loop-m.invariant c.loop-m-test.true w.if-r-back.false)
    ]
