-- Document 01, "of two equally near take the one farther from zero, the one nearer to zero, or the even one", over signed whole numbers: of all
-- integers at most half a unit from n / d HALF_UP gives none nearer to zero than another, HALF_DOWN none farther, and HALF_EVEN an even one where
-- there are two. Assumes nothing.
use mathlib.Core.Path.{◌≡◌, ap, subst}
use mathlib.Core.Logic.{⊎_elim}
use Prim.Native.Nat.{ℕ, ◌+◌, ◌*◌, ◌/◌, ◌%◌, ◌<◌, ◌≤◌}
use native.Mathlib.Decide.{dec_lt}
use native.Mathlib.Nat.{div-add-mod', mul-le-mul_right}
use native.Mathlib.Omega.{arith}
use lib.IntN.{ℤ, pos, ◌*ℤ◌}
use Rattle.whole.specs.Whole.{negative, magnitude_of}
use Rattle.whole.proofs.Laws.{magnitude_signed}
use Rattle.rounding.specs.declared.Rule.{Rule}
use Rattle.rounding.specs.declared.Rule.TheVariants.{HalfUp, HalfDown, HalfEven}
use Rattle.rounding.specs.Leaf.{rounded, rounded_magnitude}
use Rattle.rounding.proofs.Apart.{distance, apart_multiple, across_multiple}
use Rattle.rounding.proofs.Nearest.{HalfRule, half_up, half_down, half_even, Near, either_sign, half_distance_is, tie_up, tie_down, tie_even}

magnitude_is : (rule : Rule) (n : ℤ) (d : ℕ) → magnitude_of (rounded rule n d) ≡ rounded_magnitude rule (negative n) (magnitude_of n) d
unfolding rounded
magnitude_is rule n d = magnitude_signed (negative n) (rounded_magnitude rule (negative n) (magnitude_of n) d)

-- a product is not above another where its factor is
not_past : (x m : ℕ) → (x < m → ⊥) → m ≤ x
not_past x m f = at (dec_lt x m)
  where
    at : Dec (x < m) → m ≤ x
    at (yes past) = absurd (f past)
    at (no g) = omega arith

module _ (n : ℤ) (d : ℕ) (h : 0 < d) (k : ℤ) (near : 2 * distance n (k *ℤ pos d) ≤ d) where
  near_magnitude : Near (magnitude_of n) d (magnitude_of k)
  near_magnitude =
      ⊎_elim
      (λ e. let a = apart_multiple n (magnitude_of k) d in let b = ap (λ (z : ℤ). distance n (z *ℤ pos d)) e in omega (arith, near))
      (λ e. let a = across_multiple n (magnitude_of k) d in let b = ap (λ (z : ℤ). distance n (z *ℤ pos d)) e in omega (arith, near))
      (either_sign (negative n) k)

  -- what holds of the answer, and of it at a tie, holds: no other integer is so near elsewhere
  at_tie : {rule : Rule} (half : HalfRule rule) (P : ℕ → Type 0) → P (magnitude_of k)
      → (2 * (magnitude_of n % d) ≡ d → P (rounded_magnitude rule (negative n) (magnitude_of n) d)) → P (magnitude_of (rounded rule n d))
  at_tie {rule} half P same tied =
      ⊎_elim (λ e. subst (λ (z : ℤ). P (magnitude_of z)) e same) (λ tie. rw (magnitude_is rule n d) (tied tie)) (half_distance_is half n d h k near)

  -- "the one farther from zero"
  pub half_up_farther : magnitude_of k ≤ magnitude_of (rounded HalfUp n d)
  half_up_farther =
      at_tie half_up (λ (x : ℕ). magnitude_of k ≤ x) (omega arith) (λ tie.
      rw (tie_up (negative n) (magnitude_of n) d h tie)
      (not_past (magnitude_of n / d + 1) (magnitude_of k) (λ past.
      omega (arith, near_magnitude, div-add-mod' (magnitude_of n) d, mul-le-mul_right d past))))

  -- "the one nearer to zero"
  pub half_down_nearer : magnitude_of (rounded HalfDown n d) ≤ magnitude_of k
  half_down_nearer =
      at_tie half_down (λ (x : ℕ). x ≤ magnitude_of k) (omega arith) (λ tie.
      rw (tie_down (negative n) (magnitude_of n) d h tie)
      (not_past (magnitude_of k) (magnitude_of n / d) (λ past.
      omega (arith, near_magnitude, div-add-mod' (magnitude_of n) d, mul-le-mul_right d past))))

  -- "or the even one"
  pub half_even_even : (k ≡ rounded HalfEven n d → ⊥) → magnitude_of (rounded HalfEven n d) % 2 ≡ 0
  half_even_even other =
      rw (magnitude_is HalfEven n d)
      (⊎_elim (λ e. absurd (other e)) (λ tie. tie_even (negative n) (magnitude_of n) d h tie) (half_distance_is half_even n d h k near))
