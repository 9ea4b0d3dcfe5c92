-- The loop's invariant: what is still to be written into the list as it is now makes of it what the whole writing makes of the first list.
-- Assumes nothing.
use mathlib.Core.Path.{sym, ◌∙◌}
use Rattle.lines.proofs.Fills.{fill_step, fill_end, filled_put}
use Rattle.lines.proofs.texts.fill.Goals as goal

pub loop-i-preserved : goal.loop-i-preserved
loop-i-preserved c =
    sym (fill_step c.loop-i.out c.args.at c.loop-i.i c.loop-i.rest c.loop-i-test.true) ∙ c.loop-i.invariant

pub returns : goal.returns
returns c =
    sym (fill_end c.loop-i.out c.args.at c.loop-i.i c.loop-i.rest c.loop-i-test.false)
    ∙ c.loop-i.invariant
    ∙ filled_put c.args.out.now c.args.at c.args.count c.args.m c.requires.0 c.requires.1
