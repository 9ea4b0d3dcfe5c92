-- After each turn one byte's digits more stand there. Assumes nothing.
use Rattle.hexadecimal.proofs.Puts.{Put}
use Rattle.hexadecimal.proofs.putting.fill_digits.Given as goal

abbrev pub invariant-loop-i : goal.invariant-loop-i
invariant-loop-i l = Put l.initial.out l.at l.bytes l.out l.i
