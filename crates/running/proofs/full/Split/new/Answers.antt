-- After all places each has its share. Assumes nothing.
use native.Mathlib.Omega.{arith}
use Rattle.running.proofs.Fitting.{shares_are}
use Rattle.running.proofs.full.Split.new.Goals as goal

pub invariant_of-result-clause-shares : goal.invariant_of-result-clause-shares
invariant_of-result-clause-shares c =
    let a = c.args in
    let r = c.requires in
    shares_are a.weights a.sum a.n r.weighed r.part c.loop-i.full c.loop-i.i c.loop-i.invariant (omega arith)
