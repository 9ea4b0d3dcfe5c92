-- Within the limits the totals by the shares, place by place; none where the net totals are exchanged. Assumes nothing.
use mathlib.Core.Path.{ap₂, ◌∙◌}
use borrow.Author.Rules.{rules}
use Rattle.running.specs.Totals.{less_of}
use Rattle.running.proofs.Total.{between_broken, between_kept, between_falls, between_exchanged}
use Rattle.running.proofs.totals.units_between.Goals as goal

pub returns-in_default : goal.returns-in_default
returns-in_default c = between_broken c.args.weights c.in_default.ensures c.args.low c.args.high

pub returns-then-high-low : goal.returns-then-high-low
returns-then-high-low c = between_exchanged c.args.weights c.in-Some.ensures c.args.low c.args.high (search rules) c.if-high-low.true

pub less-requires : goal.less-requires
less-requires c i = rw (c.by_shares-greater.ensures, c.by_shares-lesser.ensures) (between_falls c.args.weights c.in-Some.ensures c.args.low c.args.high c.if-high-low.false i)

pub returns : goal.returns
returns c =
    c.less.ensures ∙ ap₂ less_of c.by_shares-greater.ensures c.by_shares-lesser.ensures ∙ between_kept c.args.weights c.in-Some.ensures c.args.low c.args.high
