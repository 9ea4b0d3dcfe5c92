-- After each turn one byte's digits more stand there. Assumes nothing.
use Rattle.hexadecimal.proofs.Puts.{two_put, all_put}
use Rattle.hexadecimal.proofs.putting.fill_digits.Goals as goal

pub loop-i-preserved : goal.loop-i-preserved
loop-i-preserved c = two_put _ _ _ _ _ c.loop-i.invariant c.requires _ _ c.loop-i-test.true c.digit_of.ensures c.digit_of-in-loop-i.ensures

pub returns : goal.returns
returns c = all_put _ _ _ _ _ c.loop-i.invariant c.requires c.loop-i-test.false
