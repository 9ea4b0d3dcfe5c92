-- All weights times one factor give the same totals: no test changes and no due number does, so each unit has the same taker.
-- Assumes nothing.
use mathlib.Core.Path.{◌≡◌, ap}
use mathlib.Core.List.{List, map}
use Prim.Native.Nat.{ℕ, zero, suc, ◌+◌, ◌*◌, ◌≤◌}
use native.Mathlib.Nat.{le_antisymm, le_refl, mul-pos, add-zero, mul-le-mul_left, mul-lt-mul_of_pos_left, le_of_mul-le-mul_left}
use native.Mathlib.Omega.{arith}
use lib.ListN.{length, get_or, replicate, length-map}
use Rattle.units.specs.Rule.{sum_of, may_take, due, Taker, may_at, due_at, taker_of, give, totals}
use Rattle.whole.proofs.Sums.{sum_map, get_d_map_mul}
use Rattle.units.proofs.Best.{best_moved}
use Rattle.units.proofs.Due.{ltb_same, may_weight, due_by_lem, by_due}
use Rattle.units.proofs.Taker.{taker_best, taker_of_best}

module _ (f : ℕ) (factor : 1 ≤ f) where
  may_scaled : (W t w a : ℕ) → may_take (f * W) t (f * w) a ≡ may_take W t w a
  unfolding may_take
  may_scaled W t w a =
      ltb_same (a * W) (t * w) (a * (f * W)) (t * (f * w))
      (λ h. omega (arith, mul-lt-mul_of_pos_left h factor)) (λ h. omega (arith, mul-le-mul_left f h))

  due_scaled : (W w a : ℕ) → 1 ≤ w → due (f * W) (f * w) a ≡ due W w a
  due_scaled W w a some =
      let some' : 1 ≤ f * w = mul-pos factor some in
      let least : (a + 1) * W ≤ due W w a * w = due_by_lem W w a (due W w a) some (le_refl (due W w a)) in
      let least' : (a + 1) * (f * W) ≤ due (f * W) (f * w) a * (f * w) =
      due_by_lem (f * W) (f * w) a (due (f * W) (f * w) a) some' (le_refl (due (f * W) (f * w) a)) in
      le_antisymm
      (by_due (f * W) (f * w) a (due W w a) some' (omega (arith, mul-le-mul_left f least)))
      (by_due W w a (due (f * W) (f * w) a) some (le_of_mul-le-mul_left {k = f} (omega arith) factor))

  pub taker_scaled : (ws held : List ℕ) (t : ℕ) → taker_of (map (λ w. f * w) ws) held t ≡ taker_of ws held t
  taker_scaled ws held t =
      let scaled : List ℕ = map (λ w. f * w) ws in
      taker_of_best scaled held t (taker_of ws held t)
      (rw length-map
      (best_moved (may_at ws held t) (may_at scaled held t) (due_at ws held) (due_at scaled held) 0 (length ws) (taker_of ws held t)
      (λ i l. rw (sum_map f ws, get_d_map_mul f ws i) (may_scaled (sum_of ws) t (get_or ws i 0) (get_or held i 0)))
      (λ i l m. rw (sum_map f ws, get_d_map_mul f ws i, add-zero)
      (due_scaled (sum_of ws) (get_or ws i 0) (get_or held i 0) (may_weight (sum_of ws) t (get_or ws i 0) (get_or held i 0) m)))
      (taker_best ws held t)))

  pub scaling : (ws : List ℕ) (n : ℕ) → totals (map (λ w. f * w) ws) n ≡ totals ws n
  unfolding totals
  scaling ws zero = ap (λ (k : ℕ). replicate k 0) (length-map ws (λ w. f * w))
  scaling ws (suc n) = rw (scaling ws n) (ap (λ (b : Taker). give b (totals ws n)) (taker_scaled ws (totals ws n) (suc n)))
