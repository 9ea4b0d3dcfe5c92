-- After i turns the first i differences stand from the place on. Assumes nothing.
use mathlib.Core.Path.{◌≡◌}
use Rattle.book.specs.Moves.{less_of}
use Rattle.bulk.specs.Runs.{written}
use Rattle.bulk.proofs.tabled.pay.Given as goal

abbrev pub invariant-loop-i : goal.invariant-loop-i
invariant-loop-i l = l.out ≡ written l.initial.out l.at (less_of l.total-items l.low) l.i
