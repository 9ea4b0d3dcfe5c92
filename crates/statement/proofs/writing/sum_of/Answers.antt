-- A turn of the sum, and the sum of none. Assumes nothing.
use Rattle.std.proofs.Common.{refl, ℕ, ℤ, pos, length, get_or, sym, arith}
use Rattle.statement.proofs.Totals.{total_none, held_within, sum_fits, sum_more}
use Rattle.statement.proofs.writing.sum_of.Goals as goal

pub loop-coefficient-init : goal.loop-coefficient-init
loop-coefficient-init c = sym (total_none (λ k. get_or c.args.coefficients.now k (pos 0)))

pub overflow_add-sum : goal.overflow_add-sum
overflow_add-sum c =
    let f : ℕ → ℤ = λ k. get_or c.args.coefficients.now k (pos 0) in
    let at = c.loop-coefficient in
    let i = at.coefficient-index in
    sum_fits f (length c.args.coefficients.now) c.requires i _ at.invariant (omega arith) _
    (held_within (f i) (c.requires.each i (omega arith)))

pub loop-coefficient-preserved : goal.loop-coefficient-preserved
loop-coefficient-preserved c =
    let f : ℕ → ℤ = λ k. get_or c.args.coefficients.now k (pos 0) in
    let at = c.loop-coefficient in
    let i = at.coefficient-index in
    sum_more f (length c.args.coefficients.now) c.requires i _ at.invariant (omega arith) _
    (held_within (f i) (c.requires.each i (omega arith))) _ refl
