-- After each turn one number more is written. Assumes nothing.
use mathlib.Core.Path.{◌≡◌, ◌∙◌, ap}
use Prim.Native.Nat.{ℕ, ◌+◌}
use native.Mathlib.Omega.{arith}
use Rattle.whole.specs.Lists.{filled}
use Rattle.whole.proofs.Lists.{fill_none, fill_more}
use Rattle.intake.specs.Numbers.{nth, listed_count, listed}
use Rattle.intake.proofs.lists.read_list.Goals as goal

pub loop-i-init : goal.loop-i-init
loop-i-init g c taken is = fill_none 0 (λ k. taken (nth c.args.numbers.now (c.args.from + k))) c.args.list.now

pub loop-i-preserved : goal.loop-i-preserved
loop-i-preserved g c taken is =
    fill_more 0 (λ k. taken (nth c.args.numbers.now (c.args.from + k))) c.args.list.now c.loop-i.list c.loop-i.i c.loop-i.i c.take.result
    (c.loop-i.invariant taken is) (omega arith) (is c.nth.result c.take.result c.take.ensures ∙ ap taken c.nth.ensures)

pub returns-clause-list : goal.returns-clause-list
unfolding listed
returns-clause-list g c taken is =
    let all : c.loop-i.i ≡ listed_count c.args.from c.args.to c.args.list.now = omega arith in
    c.loop-i.invariant taken is ∙ ap (λ (n : ℕ). filled 0 (λ k. taken (nth c.args.numbers.now (c.args.from + k))) n c.args.list.now) all
