-- The HALF rules give an integer at most half a unit from n / d: from the half on they may rise, past the half they do. Of two equally near,
-- HALF_UP takes the one farther from zero, HALF_DOWN the nearer to zero, HALF_EVEN the even one; elsewhere only one is so near. Assumes nothing.
use mathlib.Core.Path.{◌≡◌, refl, sym, ◌∙◌, ap}
use mathlib.Core.Bool.{Bool, true, false, not}
use mathlib.Core.Logic.{◌⊎◌, inl, inr, ⊎_map}
use Prim.Native.Nat.{ℕ, zero, suc, ◌+◌, ◌*◌, ◌/◌, ◌%◌, ◌<◌, ◌≤◌}
use native.Mathlib.Decide.{ℕ_discrete, dec_lt}
use native.Mathlib.Nat.{div-add-mod', mod-lt, mul-le-mul_right}
use native.Mathlib.Omega.{arith}
use borrow.Author.Tests.{eqb-true, eqb-false}
use lib.IntN.{ℤ, pos, negsuc, ◌*ℤ◌}
use Rattle.whole.specs.Whole.{negative, magnitude_of, signed_of}
use Rattle.whole.proofs.Laws.{signed_zero_lem}
use Rattle.rounding.specs.declared.Rule.{Rule}
use Rattle.rounding.specs.declared.Rule.TheVariants.{HalfUp, HalfDown, HalfEven}
use Rattle.rounding.specs.Leaf.{is_odd, rounded, rounded_magnitude}
use Rattle.rounding.proofs.Apart.{distance, apart_multiple, across_multiple}
use Rattle.rounding.proofs.Threshold.{threshold, by_threshold}

pub data HalfRule : Rule → Type 0 where
  half_up : HalfRule HalfUp
  half_down : HalfRule HalfDown
  half_even : HalfRule HalfEven

-- their threshold is the half or just past it
at_the_half : {rule : Rule} (half : HalfRule rule) (negative odd : Bool) (d : ℕ)
    → (d ≤ threshold rule negative odd d) × (threshold rule negative odd d ≤ d + 1)
at_the_half half_up negative odd d = omega arith
at_the_half half_down negative odd d = omega arith
at_the_half half_even negative true d = omega arith
at_the_half half_even negative false d = omega arith

-- k is at most half a unit from n / d
abbrev pub Near : (n d k : ℕ) → Type 0
Near n d k = (2 * k * d ≤ 2 * n + d) × (2 * n ≤ 2 * k * d + d)

pub nearest : {rule : Rule} → HalfRule rule → (negative : Bool) (n d : ℕ) → 0 < d → Near n d (rounded_magnitude rule negative n d)
nearest {rule} half negative n d h =
    let level = at_the_half half negative (is_odd (n / d)) d in
    let parts : n / d * d + n % d ≡ n = div-add-mod' n d in
    let rest : n % d < d = mod-lt n h in
    by_threshold rule negative n d h (Near n d) (λ reached. omega arith) (λ short. omega arith)

module _ (negative : Bool) (n d : ℕ) (h : 0 < d) (tie : 2 * (n % d) ≡ d) where
  pub tie_up : rounded_magnitude HalfUp negative n d ≡ n / d + 1
  tie_up = by_threshold HalfUp negative n d h (λ (x : ℕ). x ≡ n / d + 1) (λ reached. refl) (λ short. omega arith)

  pub tie_down : rounded_magnitude HalfDown negative n d ≡ n / d
  tie_down = by_threshold HalfDown negative n d h (λ (x : ℕ). x ≡ n / d) (λ reached. omega arith) (λ short. refl)

  pub tie_even : rounded_magnitude HalfEven negative n d % 2 ≡ 0
  unfolding is_odd
  tie_even =
      by_threshold HalfEven negative n d h (λ (x : ℕ). x % 2 ≡ 0)
      (λ reached. odd (is_odd (n / d)) refl reached) (λ short. even (is_odd (n / d)) refl short)
    where
      odd : (b : Bool) → is_odd (n / d) ≡ b → threshold HalfEven negative b d ≤ n % d + n % d → (n / d + 1) % 2 ≡ 0
      odd true e reached = omega (arith, eqb-true (n / d % 2) 1 e)
      odd false e reached = omega arith

      even : (b : Bool) → is_odd (n / d) ≡ b → n % d + n % d < threshold HalfEven negative b d → n / d % 2 ≡ 0
      even true e short = omega arith
      even false e short = omega (arith, eqb-false (n / d % 2) 1 e)

-- an integer as near as that is the answer, or two are equally near
pub near_is : {rule : Rule} → HalfRule rule → (negative : Bool) (n d : ℕ) → 0 < d → (k : ℕ) → Near n d k
    → (k ≡ rounded_magnitude rule negative n d) ⊎ (2 * (n % d) ≡ d)
near_is {rule} half negative n d h k near =
    let level = at_the_half half negative (is_odd (n / d)) d in
    let parts : n / d * d + n % d ≡ n = div-add-mod' n d in
    let rest : n % d < d = mod-lt n h in
    by_threshold rule negative n d h (λ (x : ℕ). (k ≡ x) ⊎ (2 * (n % d) ≡ d))
    (λ reached. beside (n / d + 1) (λ less. omega (arith, mul-le-mul_right d less)) (λ more. omega (arith, mul-le-mul_right d more)) (ℕ_discrete k (n / d + 1)) (dec_lt k (n / d + 1)))
    (λ short. beside (n / d) (λ less. omega (arith, mul-le-mul_right d less)) (λ more. omega (arith, mul-le-mul_right d more)) (ℕ_discrete k (n / d)) (dec_lt k (n / d)))
  where
    beside : (x : ℕ) → (k < x → 2 * (n % d) ≡ d) → (x < k → 2 * (n % d) ≡ d) → Dec (k ≡ x) → Dec (k < x) → (k ≡ x) ⊎ (2 * (n % d) ≡ d)
    beside x below above (yes e) side = inl e
    beside x below above (no differ) (yes less) = inr (below less)
    beside x below above (no differ) (no f) = inr (above (omega arith))

-- the same of signed numbers
pub either_sign : (sign : Bool) (k : ℤ) → (k ≡ signed_of sign (magnitude_of k)) ⊎ (k ≡ signed_of (not sign) (magnitude_of k))
either_sign true (pos k) = inr refl
either_sign true (negsuc k) = inl refl
either_sign false (pos k) = inl refl
either_sign false (negsuc k) = inr refl

module _ {rule : Rule} (half : HalfRule rule) (n : ℤ) (d : ℕ) (h : 0 < d) where
  pub half_distance : 2 * distance n (rounded rule n d *ℤ pos d) ≤ d
  unfolding rounded
  half_distance =
      rw (apart_multiple n (rounded_magnitude rule (negative n) (magnitude_of n) d) d)
      (omega (arith, nearest half (negative n) (magnitude_of n) d h))

  pub half_distance_is : (k : ℤ) → 2 * distance n (k *ℤ pos d) ≤ d → (k ≡ rounded rule n d) ⊎ (2 * (magnitude_of n % d) ≡ d)
  unfolding rounded
  half_distance_is k near = at (either_sign (negative n) k)
    where
      answer : (m : ℕ) → k ≡ signed_of (negative n) m → Near (magnitude_of n) d m → (k ≡ rounded rule n d) ⊎ (2 * (magnitude_of n % d) ≡ d)
      answer m e close =
          ⊎_map (λ same. e ∙ ap (signed_of (negative n)) same) (λ tie. tie) (near_is half (negative n) (magnitude_of n) d h m close)

      -- across 0 only 0 is so near
      none : (m : ℕ) → 2 * (magnitude_of n + m * d) ≤ d → k ≡ signed_of (not (negative n)) m → (k ≡ rounded rule n d) ⊎ (2 * (magnitude_of n % d) ≡ d)
      none zero near e = answer 0 (e ∙ signed_zero_lem (not (negative n)) ∙ sym (signed_zero_lem (negative n))) (omega arith)
      none (suc m) near e = absurd (omega arith)

      at : (k ≡ signed_of (negative n) (magnitude_of k)) ⊎ (k ≡ signed_of (not (negative n)) (magnitude_of k)) → (k ≡ rounded rule n d) ⊎ (2 * (magnitude_of n % d) ≡ d)
      at (inl e) =
          answer (magnitude_of k) e
          (omega (arith, near, apart_multiple n (magnitude_of k) d, ap (λ (z : ℤ). distance n (z *ℤ pos d)) e))
      at (inr e) =
          none (magnitude_of k) (omega (arith, near, across_multiple n (magnitude_of k) d, ap (λ (z : ℤ). distance n (z *ℤ pos d)) e)) e
