-- No rule's answer passes an integer: what is not above n / d is not above the answer, what is not below isn't below it. An integer
-- is its own answer, and every rule is monotone. Assumes nothing.
use mathlib.Core.Path.{subst}
use Prim.Native.Nat.{ℕ, ◌<◌}
use lib.IntN.{ℤ, pos, ◌*ℤ◌}
use lib.Signed.{◌≤ℤ◌}
use Rattle.rounding.specs.declared.Rule.{Rule}
use Rattle.rounding.specs.Leaf.{rounded}
use Rattle.rounding.proofs.Exact.{exact}
use Rattle.rounding.proofs.Monotone.{monotone}

module _ (rule : Rule) (n : ℤ) (d : ℕ) (h : 0 < d) (k : ℤ) where
  pub from_below : (k *ℤ pos d) ≤ℤ n → k ≤ℤ rounded rule n d
  from_below below = subst (λ (z : ℤ). z ≤ℤ rounded rule n d) (exact rule k d h) (monotone rule d h (k *ℤ pos d) n below)

  pub from_above : n ≤ℤ (k *ℤ pos d) → rounded rule n d ≤ℤ k
  from_above above = subst (λ (z : ℤ). rounded rule n d ≤ℤ z) (exact rule k d h) (monotone rule d h n (k *ℤ pos d) above)
