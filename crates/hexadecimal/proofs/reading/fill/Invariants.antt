-- After each turn one byte more stands in the list. Assumes nothing.
use Rattle.hexadecimal.proofs.Pairs.{Filled}
use Rattle.hexadecimal.proofs.reading.fill.Given as goal

abbrev pub invariant-loop-i : goal.invariant-loop-i
invariant-loop-i l = Filled l.word l.initial.bytes l.bytes l.i
