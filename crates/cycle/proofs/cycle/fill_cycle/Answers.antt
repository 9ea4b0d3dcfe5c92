-- Within the limits the walk fills the table; else it stays. Assumes nothing.
use mathlib.Core.Path.{ap, ◌∙◌}
use Prim.Native.Nat.{ℕ}
use native.Mathlib.Omega.{arith}
use Rattle.whole.specs.Lists.{filled}
use Rattle.units.specs.Mask.{mask}
use Rattle.running.proofs.Total.{keeps, breaks_none, breaks_many}
use Rattle.cycle.proofs.Table.{not_weighed, too_short, is_filled}
use Rattle.cycle.proofs.cycle.fill_cycle.Goals as goal

pub returns-then-sum-lt1 : goal.returns-then-sum-lt1
returns-then-sum-lt1 c =
    let a = c.args in
    not_weighed a.weights a.table.now (breaks_none a.weights (omega (arith, c.sum_from-sum.ensures)))

pub returns-then-sum-gt-WEIGHT_SUM : goal.returns-then-sum-gt-WEIGHT_SUM
returns-then-sum-gt-WEIGHT_SUM c =
    let a = c.args in
    not_weighed a.weights a.table.now (breaks_many a.weights (omega (arith, c.sum_from-sum.ensures)) (omega (arith, c.sum_from-sum.ensures)))

pub returns-then-table-sum : goal.returns-then-table-sum
returns-then-table-sum c =
    let a = c.args in
    too_short a.weights a.table.now (keeps a.weights (omega (arith, c.sum_from-sum.ensures)) (omega (arith, c.sum_from-sum.ensures))) (omega (arith, c.sum_from-sum.ensures))

pub returns : goal.returns
returns c =
    let a = c.args in
    c.fill.ensures ∙ ap (λ (k : ℕ). filled 0 (mask a.weights) k a.table.now) c.sum_from-sum.ensures
    ∙ is_filled a.weights a.table.now (keeps a.weights (omega (arith, c.sum_from-sum.ensures)) (omega (arith, c.sum_from-sum.ensures))) (omega (arith, c.sum_from-sum.ensures))
