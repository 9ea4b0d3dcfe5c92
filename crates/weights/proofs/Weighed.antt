-- The sum that `weigh` answers is that of the list, where it may have so many weights, and 0 where there are more. Assumes nothing.
use mathlib.Core.Path.{◌≡◌}
use mathlib.Core.List.{List}
use Prim.Native.Nat.{ℕ, ◌≤◌, ◌<◌}
use borrow.Author.Tests.{lt-ltb, le-ltb}
use lib.ListN.{length}
use Rattle.whole.specs.Sums.{sum_of}
use Rattle.weights.specs.Weights.{most_weights, weighed}

module _ (ws : List ℕ) where
  pub weighed_sum : length ws ≤ most_weights → weighed ws ≡ sum_of ws
  unfolding weighed
  weighed_sum most = rw (le-ltb most_weights (length ws) most)

  pub weighed_none : most_weights < length ws → weighed ws ≡ 0
  unfolding weighed
  weighed_none many = rw (lt-ltb most_weights (length ws) many)
