-- After i turns the first i differences stand from the place on. Assumes nothing.
use mathlib.Core.Path.{refl, sym}
use lib.ListN.{get_or}
use Rattle.book.specs.Moves.{less_of}
use Rattle.running.proofs.Places.{less_place}
use Rattle.whole.proofs.Lists.{fill_none, fill_more}
use Rattle.bulk.proofs.tabled.pay.Goals as goal

pub loop-i-init : goal.loop-i-init
loop-i-init c = fill_none _ _ _

pub loop-i-preserved : goal.loop-i-preserved
loop-i-preserved c = let a = c.args in
    let l = c.loop-i in
    fill_more a.at (λ k. get_or (less_of a.high a.low) k 0) a.out.now l.out l.i _ _ l.invariant refl (sym (less_place a.high a.low l.i))
