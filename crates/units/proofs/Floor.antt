-- No total is below its share rounded down. At t, and for every later e, the places together are short of their shares of e, each
-- rounded down, by at most e - t units; at e = t nobody is short. Assumes nothing.
use mathlib.Core.Path.{◌≡◌, refl, ap}
use mathlib.Core.Bool.{Bool, true, false}
use mathlib.Core.List.{List}
use Prim.Native.Nat.{ℕ, zero, suc, ◌+◌, ◌-◌, ◌*◌, ◌/◌, ◌≤◌, ◌<◌, zero-le}
use native.Mathlib.Nat.{le-div_iff_mul-le, div-lt_iff_lt-mul, div-mul-le_self, le_of_mul-le-mul_right, mul-le-mul_right, sub-add_cancel, lt_of_not-le, mul-zero, zero-div}
use native.Mathlib.Decide.{dec_le, dec_lt}
use native.Mathlib.Omega.{arith}
use lib.ListN.{length, get_or, get_or-eq_default}
use Rattle.units.specs.Rule.{sum_of, may_at, due_at, totals}
use Rattle.units.specs.Wording.{Takes}
use Rattle.whole.proofs.Sums.{sum_to, sum_list, sum_le, sum_term, sum_raised}
use Rattle.units.proofs.Due.{may_not, may_weight, due_by_lem, not_due}
use Rattle.units.proofs.Added.{taken, raised, kept, never_fall}

-- place i's share of e units, rounded down, and how far its total at t is short of it
abbrev pub share : (ws : List ℕ) (e i : ℕ) → ℕ
share ws e i = e * get_or ws i 0 / sum_of ws

abbrev pub short : (ws : List ℕ) (t e i : ℕ) → ℕ
short ws t e i = share ws e i - get_or (totals ws t) i 0

-- a difference times W, where the difference stops at 0
gap_mul : (x a W y : ℕ) → x * W ≤ y + a * W → (x - a) * W ≤ y
gap_mul x a W y h = go (dec_le a x)
  where
    go : Dec (a ≤ x) → (x - a) * W ≤ y
    go (yes l) = omega (arith, ap (λ (z : ℕ). z * W) (sub-add_cancel l))
    go (no l) = let e : x - a ≡ 0 = omega arith in rw e (omega arith)

module _ (ws : List ℕ) (some : 1 ≤ sum_of ws) where
  -- the places together are short of at most d, where each is within its share of d
  short_sum : (t e d : ℕ) → ((i : ℕ) → i < length ws → share ws e i * sum_of ws ≤ get_or ws i 0 * d + get_or (totals ws t) i 0 * sum_of ws)
      → sum_to (short ws t e) (length ws) ≤ d
  short_sum t e d each =
      let sums : sum_to (short ws t e) (length ws) * sum_of ws ≤ sum_to (λ i. get_or ws i 0) (length ws) * d =
      sum_le (short ws t e) (λ i. get_or ws i 0) (sum_of ws) d (length ws)
      (λ i l. gap_mul (share ws e i) (get_or (totals ws t) i 0) (sum_of ws) (get_or ws i 0 * d) (each i l)) in
      le_of_mul-le-mul_right {k = sum_of ws} (omega (arith, rw (sum_list ws (length ws) refl) at sums)) some

  -- a total does not fall, times W
  grown : (t i : ℕ) → get_or (totals ws t) i 0 * sum_of ws ≤ get_or (totals ws (suc t)) i 0 * sum_of ws
  grown t i = mul-le-mul_right (sum_of ws) (never_fall ws some t (suc t) (omega arith) i)

  module _ (t p e : ℕ) (c : Takes ws (totals ws t) (suc t) p) where
    taker_weight : 1 ≤ get_or ws p 0
    taker_weight = may_weight (sum_of ws) (suc t) (get_or ws p 0) (get_or (totals ws t) p 0) c.may

    -- the taker is due by e: it was short of its share of e, and is so by one unit less
    taker_due : due_at ws (totals ws t) p ≤ e → sum_to (short ws t e) (length ws) ≡ sum_to (short ws (suc t) e) (length ws) + 1
    taker_due h =
        let a : ℕ = get_or (totals ws t) p 0 in
        let owed : a + 1 ≤ share ws e p = (le-div_iff_mul-le some).1 (due_by_lem (sum_of ws) (get_or ws p 0) a e taker_weight h) in
        sum_raised (short ws t e) (short ws (suc t) e) p (length ws) c.partner
        (rw (raised ws t p c) (omega arith)) (λ i n. rw (kept ws t p c i n))

    -- the taker is not due by e: nobody that may take the unit is, and whoever may not has its share of the units up to t + 1
    taker_late : (d : ℕ) → e ≡ suc t + d → e < due_at ws (totals ws t) p → sum_to (short ws (suc t) e) (length ws) ≤ d
    taker_late d s h = short_sum (suc t) e d (λ i l. go i l (may_at ws (totals ws t) (suc t) i) refl)
      where
        go : (i : ℕ) → i < length ws → (m : Bool) → may_at ws (totals ws t) (suc t) i ≡ m
            → share ws e i * sum_of ws ≤ get_or ws i 0 * d + get_or (totals ws (suc t)) i 0 * sum_of ws
        go i l true m =
            let a : ℕ = get_or (totals ws t) i 0 in
            let w : ℕ = get_or ws i 0 in
            let late : e * w < (a + 1) * sum_of ws =
            not_due (sum_of ws) w a e (may_weight (sum_of ws) (suc t) w a m) (omega (arith, c.smallest i l m)) in
            let full : share ws e i < a + 1 = (div-lt_iff_lt-mul some).1 late in
            omega (arith, mul-le-mul_right (sum_of ws) full, grown t i)
        go i l false m =
            let a : ℕ = get_or (totals ws t) i 0 in
            let w : ℕ = get_or ws i 0 in
            omega (arith, may_not (sum_of ws) (suc t) w a m, div-mul-le_self (e * w) (sum_of ws), ap (λ (z : ℕ). z * w) s, grown t i)

  -- at t, for every e that is d later
  pub short_by : (t d e : ℕ) → e ≡ t + d → sum_to (short ws t e) (length ws) ≤ d
  short_by zero d e s =
      short_sum zero e d (λ i l. omega (arith, div-mul-le_self (e * get_or ws i 0) (sum_of ws), ap (λ (z : ℕ). z * get_or ws i 0) s))
  short_by (suc t) d e s = go (taken ws some t).0 (taken ws some t).1 (short_by t (suc d) e (omega arith))
    where
      go : (p : ℕ) → Takes ws (totals ws t) (suc t) p → sum_to (short ws t e) (length ws) ≤ suc d → sum_to (short ws (suc t) e) (length ws) ≤ d
      go p c before = by (dec_le (due_at ws (totals ws t) p) e)
        where
          by : Dec (due_at ws (totals ws t) p ≤ e) → sum_to (short ws (suc t) e) (length ws) ≤ d
          by (yes h) = omega (arith, taker_due t p e c h)
          by (no h) = taker_late t p e c d s (lt_of_not-le h)

  -- n x w / W rounded down
  pub floor : (n i : ℕ) → n * get_or ws i 0 / sum_of ws ≤ get_or (totals ws n) i 0
  floor n i = go (dec_lt i (length ws))
    where
      go : Dec (i < length ws) → n * get_or ws i 0 / sum_of ws ≤ get_or (totals ws n) i 0
      go (yes h) = omega (arith, short_by n 0 n (omega arith), sum_term (short ws n n) (length ws) i h)
      go (no h) = rw (get_or-eq_default ws 0 {n = i} (omega arith), mul-zero, zero-div) zero-le
