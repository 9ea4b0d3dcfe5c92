-- Where d divides n, every rule gives n / d itself: the rest is 0, and no rule raises an exact quotient. Assumes nothing.
use mathlib.Core.Path.{◌≡◌, ◌∙◌, ap}
use mathlib.Core.Bool.{Bool}
use Prim.Native.Nat.{ℕ, ◌*◌, ◌/◌, ◌<◌}
use native.Mathlib.Nat.{mul-div_cancel, mul-mod_left}
use native.Mathlib.Omega.{arith}
use lib.IntN.{ℤ, pos, ◌*ℤ◌}
use Rattle.whole.specs.Whole.{negative, magnitude_of, signed_of}
use Rattle.whole.proofs.Laws.{sign_and_magnitude}
use Rattle.rounding.specs.declared.Rule.{Rule}
use Rattle.rounding.specs.Leaf.{is_odd, rounded, rounded_magnitude}
use Rattle.rounding.proofs.Threshold.{threshold_some, by_threshold}
use Rattle.rounding.proofs.Value.{by_magnitude}

pub exact_magnitude : (rule : Rule) (negative : Bool) (m d : ℕ) → 0 < d → rounded_magnitude rule negative (m * d) d ≡ m
exact_magnitude rule negative m d h =
    by_threshold rule negative (m * d) d h (λ (x : ℕ). x ≡ m)
    (λ reached. absurd (omega (arith, mul-mod_left m d, threshold_some rule negative (is_odd (m * d / d)) d h)))
    (λ short. mul-div_cancel m h)

pub exact : (rule : Rule) (k : ℤ) (d : ℕ) → 0 < d → rounded rule (k *ℤ pos d) d ≡ k
exact rule k d h =
    by_magnitude rule k d d
    ∙ ap (signed_of (negative k)) (exact_magnitude rule (negative k) (magnitude_of k) d h)
    ∙ sign_and_magnitude k
