-- At each place the whole cycles, the full units of what is left, and one more where the place is ahead. Assumes nothing.
use mathlib.Core.Path.{◌≡◌}
use Rattle.whole.specs.Lists.{filled}
use lib.ListN.{get_or}
use Rattle.units.specs.Rule.{totals}
use Rattle.running.specs.Limits.{zeros}
use Rattle.running.proofs.totals.by_shares.Given as goal

abbrev pub invariant-loop-i : goal.invariant-loop-i
invariant-loop-i l = l.held ≡ filled 0 (λ k. get_or (totals l.weights l.n) k 0) l.i zeros
