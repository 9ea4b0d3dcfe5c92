-- Numbers of two bytes fit. Assumes nothing.
use native.Mathlib.Omega.{arith}
use Prim.Native.Nat.{◌+◌}
use Rattle.statement.proofs.ReadBack.{number_below}
use Rattle.statement.proofs.walking.payout_at.Goals as goal

pub overflow_cast-result : goal.overflow_cast-result
overflow_cast-result c = let a = c.args in
    omega (arith, c.number_at.ensures, number_below a.bytes.now (λ i. (c.type_inv.bytes i).fits) a.at 2)

pub overflow_cast-result-2 : goal.overflow_cast-result-2
overflow_cast-result-2 c = let a = c.args in
    omega (arith, c.number_at-2.ensures, number_below a.bytes.now (λ i. (c.type_inv.bytes i).fits) (a.at + 2) 2)
