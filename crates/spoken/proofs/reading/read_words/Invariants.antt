-- After each turn one word more is heard. Assumes nothing.
use Prim.Native.Nat.{◌-◌}
use lib.ListN.{length}
use Rattle.spoken.proofs.Turns.{Stands}
use Rattle.spoken.proofs.reading.read_words.Given as goal

abbrev pub invariant-loop-at : goal.invariant-loop-at
invariant-loop-at l = Stands l.line l.form l.from l.initial.numbers l.numbers l.at l.heard

abbrev pub decreases-loop-at : goal.decreases-loop-at
decreases-loop-at l = length l.line - l.at
