-- The places passed hold the signed shares, each at most the sum, which an i64 holds. Assumes nothing.
use mathlib.Core.Path.{◌≡◌}
use mathlib.Core.List.{map}
use lib.ListN.{get_or}
use Rattle.whole.specs.Lists.{filled}
use Rattle.whole.specs.Whole.{signed_of}
use Rattle.sharing.proofs.spread.write.Given as goal

abbrev pub invariant-loop-i : goal.invariant-loop-i
invariant-loop-i l = l.out ≡ filled 0 (λ k. get_or (map (signed_of l.negative) l.shares) k (signed_of l.negative 0)) l.i l.initial.out
