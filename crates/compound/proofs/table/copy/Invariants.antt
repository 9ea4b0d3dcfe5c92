-- The places passed hold the balances; the others stand as they did. Assumes nothing.
use mathlib.Core.Path.{◌≡◌}
use lib.IntN.{pos}
use lib.ListN.{get_or}
use Rattle.whole.specs.Lists.{filled}
use Rattle.compound.proofs.table.copy.Given as goal

abbrev pub invariant-loop-i : goal.invariant-loop-i
invariant-loop-i l = l.out ≡ filled 0 (λ n. pos (get_or l.rows n 0)) l.i l.initial.out
