-- After so many turns the holdings are those after so many vouchers, whose sum they have gained. Assumes nothing.
use mathlib.Core.Path.{◌≡◌}
use Rattle.average.specs.Rule.{give_out}
use Rattle.vouchers.proofs.giving.give_out.Given as goal

abbrev pub invariant-loop-given : goal.invariant-loop-given
invariant-loop-given l = l.held ≡ give_out l._given l.weights l.initial.held
