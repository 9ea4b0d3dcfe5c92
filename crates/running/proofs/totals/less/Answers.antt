-- At each place the difference takes the place of the greater total. Assumes nothing.
use mathlib.Core.Path.{◌≡◌}
use native.Mathlib.Omega.{arith}
use borrow.Author.Rules.{rules}
use lib.ListN.{length}
use Rattle.running.proofs.Places.{less_still, less_next, less_all}
use Rattle.running.proofs.totals.less.Goals as goal

pub overflow_sub-rest : goal.overflow_sub-rest
overflow_sub-rest c =
    let still = less_still c.args.high c.args.low c.loop-i.rest c.loop-i.i c.loop-i.invariant in
    omega (arith, still, c.requires c.loop-i.i)

pub loop-i-preserved : goal.loop-i-preserved
loop-i-preserved c = less_next c.args.high c.args.low c.loop-i.rest c.loop-i.i c.loop-i.invariant

pub returns : goal.returns
returns c =
    let long : length c.args.high ≡ 16 = search rules in
    less_all c.args.high c.args.low c.loop-i.rest c.loop-i.i c.loop-i.invariant (omega arith)
