-- The full units that may have been taken, as a running sum: by unit t + 1 they are more by the full units that may first be taken by it.
-- At one place, unit number m + 1 may be taken by t exactly where m x W / w < t, so that counting unit after unit counts as far as the
-- place may reach. Assumes nothing.
use mathlib.Core.Path.{◌≡◌, refl, sym, ◌∙◌}
use mathlib.Core.Logic.{◌↔◌, ◌≢◌}
use mathlib.Core.Bool.{Bool, true, false, cond}
use mathlib.Core.List.{List}
use Prim.Native.Nat.{ℕ, zero, suc, ◌+◌, ◌*◌, ◌/◌, ◌≤◌, ◌<◌, min}
use native.Mathlib.Nat.{div-lt_iff_lt-mul, mul-zero, zero-div}
use native.Mathlib.Decide.{dec_lt}
use native.Mathlib.Omega.{arith}
use lib.Dec.{eqb}
use lib.ListN.{length, get_or}
use borrow.Author.Tests.{eqb-true, eqb-false}
use Rattle.units.specs.Rule.{sum_of}
use Rattle.units.specs.Window.{lo, reach, full_at, full_by}
use Rattle.units.specs.Calendar.{lands_at, lands_by}
use Rattle.units.proofs.Places.{places_plus, places_same}
use Rattle.units.proofs.Straddle.{below_reach}

-- unit number m + 1 lies within what may be taken by unit t exactly where m x W / w < t
module _ (W w m t : ℕ) (some : 1 ≤ W) (weighs : 1 ≤ w) where
  pub lands : (m * W / w < t) ↔ (m < reach W t w)
  lands = (
    λ h. omega (arith, (below_reach W t w m some).0 ((div-lt_iff_lt-mul weighs).0 h)),
    λ h. (div-lt_iff_lt-mul weighs).1 ((below_reach W t w m some).1 (omega arith)),
  )

-- a place with a full unit has a weight
pub full_weighs : (n w W : ℕ) → 1 ≤ n * w / W → 1 ≤ w
full_weighs n zero W h = absurd (omega (arith, rw (mul-zero, zero-div) at h))
full_weighs n (suc w) W h = omega arith

-- one unit more laid down, number m + 1, that may first be taken by unit q + 1: counted at t + 1 where q is t
module _ (m r r' q t : ℕ) (by-t : (q < t) ↔ (m < r)) (by_next : (q < suc t) ↔ (m < r')) where
  one_more : (x : ℕ) → min m r + x ≡ min m r' → min (suc m) r + (x + cond (eqb (q + 1) (suc t)) 1 0) ≡ min (suc m) r'
  one_more x before = go (eqb (q + 1) (suc t)) refl
    where
      go : (b : Bool) → eqb (q + 1) (suc t) ≡ b → min (suc m) r + (x + cond b 1 0) ≡ min (suc m) r'
      go true e =
          let same : q + 1 ≡ suc t = eqb-true (q + 1) (suc t) e in
          let late : ¬ (m < r) = λ b. omega (arith, by-t.1 b) in
          omega (arith, by_next.0 (omega arith))
      go false e = by (dec_lt q t)
        where
          by : Dec (q < t) → min (suc m) r + (x + 0) ≡ min (suc m) r'
          by (yes h) = omega (arith, by-t.0 h, by_next.0 (omega arith))
          by (no h) =
              let other : q + 1 ≢ suc t = eqb-false (q + 1) (suc t) e in
              let late : ¬ (m < r) = λ b. omega (arith, by-t.1 b) in
              let later : ¬ (m < r') = λ b. omega (arith, by_next.1 b) in
              omega arith

module _ (ws : List ℕ) (some : 1 ≤ sum_of ws) where
  -- one place: its first c units
  lands_at_lem : (t i c : ℕ) → 1 ≤ get_or ws i 0
      → min c (reach (sum_of ws) t (get_or ws i 0)) + lands_at ws (suc t) i c ≡ min c (reach (sum_of ws) (suc t) (get_or ws i 0))
  unfolding lands_at
  lands_at_lem t i zero h = omega arith
  lands_at_lem t i (suc m) h =
      let W : ℕ = sum_of ws in
      let w : ℕ = get_or ws i 0 in
      one_more m (reach W t w) (reach W (suc t) w) (m * W / w) t (lands W w m t some h) (lands W w m (suc t) some h)
      (lands_at ws (suc t) i m) (lands_at_lem t i m h)

  -- one place: its full units, where it may have no weight
  lands_full : (n t i : ℕ) → full_at ws n t i + lands_at ws (suc t) i (lo ws n i) ≡ full_at ws n (suc t) i
  unfolding lands_at
  lands_full n t i = go (lo ws n i) refl
    where
      go : (l : ℕ) → lo ws n i ≡ l
          → min l (reach (sum_of ws) t (get_or ws i 0)) + lands_at ws (suc t) i l ≡ min l (reach (sum_of ws) (suc t) (get_or ws i 0))
      go zero e = omega arith
      go (suc l) e = lands_at_lem t i (suc l) (full_weighs n (get_or ws i 0) (sum_of ws) (omega arith))

  -- by unit t + 1 so many full units more may have been taken as may first be taken by it
  pub full_lands : (n t : ℕ) → full_by ws n (suc t) ≡ full_by ws n t + lands_by ws n (suc t)
  unfolding full_by lands_by
  full_lands n t =
      sym (places_same (λ i. full_at ws n t i + lands_at ws (suc t) i (lo ws n i)) (full_at ws n (suc t)) (length ws) (λ i l. lands_full n t i))
      ∙ places_plus (full_at ws n t) (λ i. lands_at ws (suc t) i (lo ws n i)) (length ws)
