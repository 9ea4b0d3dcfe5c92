-- The bytes passed, from the last one on, hold the number so far. Assumes nothing.
use native.Mathlib.Omega.{arith}
use Prim.Native.Nat.{◌+◌, ◌-◌}
use Rattle.statement.proofs.ReadBack.{none_read, number_step, number_fits}
use Rattle.statement.proofs.numbers.number_at.Goals as goal

pub loop-i-init : goal.loop-i-init
loop-i-init c = none_read _ _ _

pub overflow_mul-number : goal.overflow_mul-number
overflow_mul-number c = let a = c.args in
    let at = c.loop-i in
    omega (arith, at.invariant, number_fits a.bytes.now (λ i. (c.type_inv.bytes i).fits) (a.at + at.i) (a.count - at.i) (omega arith))

pub overflow_add-number : goal.overflow_add-number
overflow_add-number c = let a = c.args in
    let at = c.loop-i in
    omega (arith, at.invariant, c.from.ensures, c.type_inv.bytes (a.at + (at.i - 1)), number_fits a.bytes.now (λ i. (c.type_inv.bytes i).fits) (a.at + at.i) (a.count - at.i) (omega arith))

pub loop-i-preserved : goal.loop-i-preserved
loop-i-preserved c = let a = c.args in
    let at = c.loop-i in
    number_step a.bytes.now a.at at.i a.count at.number c.from.result (omega arith) (omega arith) at.invariant c.from.ensures
