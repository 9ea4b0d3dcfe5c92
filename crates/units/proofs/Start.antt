-- Where mass(u) < W nobody is ahead after unit u. The full units that may have been taken by t are t units less the mass at t / W, and
-- the mass never falls; so up to u they are more than t - 1, and no unit goes to a straddler. Assumes nothing.
use mathlib.Core.Path.{◌≡◌, refl, ap, ◌∙◌}
use mathlib.Core.List.{List}
use Prim.Native.Nat.{ℕ, zero, suc, ◌+◌, ◌-◌, ◌*◌, ◌≤◌, ◌<◌, min}
use native.Mathlib.Nat.{min-eq_left, min-eq_right, mul-le-mul_right, lt_of_mul-lt-mul_right}
use native.Mathlib.Decide.{dec_le}
use native.Mathlib.Omega.{arith}
use lib.ListN.{length, get_or}
use Rattle.units.specs.Rule.{sum_of}
use Rattle.units.specs.Window.{places_sum, lo, reach, full_at, full_by, mass_at, mass, ahead_at}
use Rattle.whole.proofs.Sums.{sum_list}
use Rattle.units.proofs.Places.{places_sum_lem, places_mul, places_plus, places_le, places_none}
use Rattle.units.proofs.Added.{totals_none}
use Rattle.units.proofs.Straddle.{below_reach}
use Rattle.units.proofs.Step.{step_full}

module _ (W t w l : ℕ) (some : 1 ≤ W) where
  -- at one place: the full units that may have been taken, times W, and the mass are at least t x w
  reach_mass : t * w ≤ min l (reach W t w) * W + (t * w - l * W)
  reach_mass = go (dec_le l (reach W t w))
    where
      go : Dec (l ≤ reach W t w) → t * w ≤ min l (reach W t w) * W + (t * w - l * W)
      go (yes h) = rw (min-eq_left h) (omega arith)
      go (no h) =
          let e : min l (reach W t w) ≡ reach W t w = min-eq_right (omega arith) in
          let r : ¬ (reach W t w * W < t * w) = λ b. omega (arith, (below_reach W t w (reach W t w) some).0 b) in
          rw e (omega arith)

module _ (ws : List ℕ) (n : ℕ) where
  -- before any unit there is no mass: u = 0 always serves
  pub mass_none : mass ws n 0 ≡ 0
  unfolding mass
  mass_none = places_none (mass_at ws n 0) (length ws) (λ i. omega arith)

  -- the mass never falls
  pub mass_grows : (t u : ℕ) → t ≤ u → mass ws n t ≤ mass ws n u
  unfolding mass
  mass_grows t u h = places_le (mass_at ws n t) (mass_at ws n u) (length ws) (λ i l. omega (arith, mul-le-mul_right (get_or ws i 0) h))

  module _ (some : 1 ≤ sum_of ws) where
    pub full_mass : (t : ℕ) → t * sum_of ws ≤ full_by ws n t * sum_of ws + mass ws n t
    unfolding full_by mass
    full_mass t =
        let w : ℕ → ℕ = λ i. get_or ws i 0 in
        let units : places_sum (λ i. w i * t) (length ws) ≡ sum_of ws * t =
        places_mul w t (length ws) ∙ ap (λ (z : ℕ). z * t) (places_sum_lem w (length ws) ∙ sum_list ws (length ws) refl) in
        let each : places_sum (λ i. w i * t) (length ws) ≤ places_sum (λ i. full_at ws n t i * sum_of ws + mass_at ws n t i) (length ws) =
        places_le (λ i. w i * t) (λ i. full_at ws n t i * sum_of ws + mass_at ws n t i) (length ws)
        (λ i l. omega (arith, reach_mass (sum_of ws) t (w i) (lo ws n i) some)) in
        omega (
          arith,
          places_plus (λ i. full_at ws n t i * sum_of ws) (mass_at ws n t) (length ws),
          places_mul (full_at ws n t) (sum_of ws) (length ws),
        )

    -- by a unit s + 1 whose mass is below W, more than s full units may have been taken
    full_more : (s : ℕ) → mass ws n (suc s) < sum_of ws → s < full_by ws n (suc s)
    full_more s light = lt_of_mul-lt-mul_right (sum_of ws) (omega (arith, full_mass (suc s)))

    -- nobody is ahead after unit u, nor after any before it
    pub start : (u : ℕ) → mass ws n u < sum_of ws → (t : ℕ) → t ≤ u → (i : ℕ) → ahead_at ws n t i ≡ 0
    start u light zero h i = rw totals_none (omega arith)
    start u light (suc s) h i =
        step_full ws some n s (omega (arith, full_more s (omega (arith, mass_grows (suc s) u h)))) i ∙ start u light s (omega arith) i
