-- Each turn lays one place's full units down, and counts those before the window. Assumes nothing.
use mathlib.Core.Path.{refl}
use native.Mathlib.Omega.{arith}
use Rattle.running.proofs.Filled.{filled_start, laying, taken_first, taken_full, filled_lay, filled_none, filled_count, filled_listed}
use Rattle.running.proofs.full.Split.by_slots.Goals as goal
use Rattle.running.proofs.full.Split.by_slots.Goals.{then-first-self, else-first-self}

pub loop-i-init : goal.loop-i-init
loop-i-init c = filled_start c.requires.empty

pub lay-requires : goal.lay-requires
lay-requires c = laying c.args.self.now c.requires.empty c.loop-i.invariant c.loop-i-test.true _ refl c.if-first-self.true

pub overflow_add-taken : goal.overflow_add-taken
overflow_add-taken c =
    let s = c.args.self.now in
    omega (arith, taken_first s c.requires.empty c.loop-i.invariant c.loop-i-test.true _ refl c.if-first-self.true, s.part)

pub overflow_add-taken-else-first-self : goal.overflow_add-taken-else-first-self
overflow_add-taken-else-first-self c =
    let s = c.args.self.now in
    omega (arith, taken_full s c.requires.empty c.loop-i.invariant c.loop-i-test.true _ refl c.if-first-self.false, s.part)

pub walk-requires-clause-taken_value : goal.walk-requires-clause-taken_value
walk-requires-clause-taken_value c = filled_count c.args.self.now c.requires.empty c.loop-i.invariant c.loop-i-test.false

pub walk-requires-clause-listed : goal.walk-requires-clause-listed
walk-requires-clause-listed c = filled_listed c.args.self.now c.requires.empty c.loop-i.invariant c.loop-i-test.false

pub loop-i-preserved : goal.loop-i-preserved
loop-i-preserved c =
    let s = c.args.self.now in
    elim c.if-first-self.branch [
      | then-first-self w ↦ rw (w.taken-is, w.slots-is)
          (filled_lay s c.requires.empty c.loop-i.invariant c.loop-i-test.true _ refl w.if-first-self.true _ w.lay.ensures)
      | else-first-self w ↦ rw (w.taken-is, w.slots-is) (filled_none s c.requires.empty c.loop-i.invariant c.loop-i-test.true _ refl w.if-first-self.false)
    ]
