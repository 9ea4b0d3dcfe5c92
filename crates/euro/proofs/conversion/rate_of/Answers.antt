-- A line's factors are within the limits of the words, and the powers of ten are those of the arithmetic. Assumes nothing.
use mathlib.Core.Path.{◌∙◌, ap, ap₂}
use Prim.Native.Nat.{ℕ, ◌*◌, ◌≤◌, ◌^◌}
use native.Mathlib.Omega.{arith}
use Rattle.currency.specs.declared.Line.{Line}
use Rattle.currency.proofs.Tables.{Good, in_table}
use Rattle.euro.specs.Through.{rate_at}
use Rattle.euro.proofs.Magnitudes.{rate_is, unit_fits}
use Rattle.euro.proofs.conversion.rate_of.Goals as goal

pub overflow_mul-result : goal.overflow_mul-result
overflow_mul-result c =
    let good : Good c.line_of-line.result = rw c.line_of-line.ensures (in_table c.args.currency c.requires.0) in
    let bounded : c.line_of-line.result.figures * c.power_of_ten.result ≤ 10 ^ 18 = rw c.power_of_ten.ensures (unit_fits c.line_of-line.result good) in
    omega (arith, bounded)

pub overflow_add-line : goal.overflow_add-line
overflow_add-line c =
    let good : Good c.line_of-line.result = rw c.line_of-line.ensures (in_table c.args.currency c.requires.0) in
    omega (arith, good)

pub returns : goal.returns
returns c =
    let good : Good c.line_of-line.result = rw c.line_of-line.ensures (in_table c.args.currency c.requires.0) in
    let l = c.line_of-line.result in
    ap₂ (λ (x y : ℕ). record { unit = l.figures * x; parts = y }) c.power_of_ten.ensures c.power_of_ten-2.ensures
    ∙ rate_is l good c.args.decimals c.requires.1
    ∙ ap (λ (x : Line). rate_at x c.args.decimals) c.line_of-line.ensures
