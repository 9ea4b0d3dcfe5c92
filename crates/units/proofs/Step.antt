-- Unit s + 1, up to n: the full units that may have been taken by it and the straddlers taken are at least s, and the unit goes to a
-- straddler exactly where they are s. For the full units taken are nowhere more than those that may have been: where they are fewer at
-- some place, that place may take the unit and is due by n, so that the taker is due by n too, and which full unit it takes does not
-- matter; where they are fewer nowhere, no full unit is to be had. Assumes nothing.
use mathlib.Core.Path.{◌≡◌, refl, sym, ◌∙◌}
use mathlib.Core.Logic.{◌↔◌}
use mathlib.Core.Bool.{Bool, true, false}
use mathlib.Core.List.{List}
use Prim.Native.Nat.{ℕ, suc, ◌+◌, ◌≤◌, ◌<◌, min}
use native.Mathlib.Nat.{le_trans}
use native.Mathlib.Omega.{arith}
use lib.ListN.{length, get_or}
use Rattle.units.specs.Rule.{sum_of, may_at, totals}
use Rattle.units.specs.Wording.{Takes}
use Rattle.units.specs.Window.{places_sum, lo, reach, full_at, full_by, ahead_at, ahead_by}
use Rattle.whole.proofs.Sums.{sum_list}
use Rattle.units.proofs.Places.{places_sum_lem, places_plus, places_same, places_le, places_lt}
use Rattle.units.proofs.Due.{may_weight}
use Rattle.units.proofs.Added.{length_totals, sum_totals, raised, each_place}
use Rattle.units.proofs.Straddle.{due_full, may_reach, may_not_reach, reach_grows, within_reach, one_ahead}

-- the full units that place i has after unit s
abbrev held_at : (ws : List ℕ) (n s i : ℕ) → ℕ
held_at ws n s i = min (lo ws n i) (get_or (totals ws s) i 0)

module _ (ws : List ℕ) (some : 1 ≤ sum_of ws) (n s : ℕ) where
  -- the full units taken and the straddlers taken are s
  held_sum : places_sum (held_at ws n s) (length ws) + ahead_by ws n s ≡ s
  unfolding ahead_by
  held_sum =
      sym (places_plus (held_at ws n s) (ahead_at ws n s) (length ws))
      ∙ places_same (λ i. held_at ws n s i + ahead_at ws n s i) (λ i. get_or (totals ws s) i 0) (length ws) (λ i l. omega arith)
      ∙ places_sum_lem (λ i. get_or (totals ws s) i 0) (length ws)
      ∙ sum_list (totals ws s) (length ws) (length_totals ws s)
      ∙ sum_totals ws some s

  -- the full units taken are nowhere more than those that may have been
  held_within : (i : ℕ) → held_at ws n s i ≤ full_at ws n (suc s) i
  held_within i =
      omega (arith, within_reach ws some s i, reach_grows (sum_of ws) s (suc s) (get_or ws i 0) some (omega arith))

  -- the full units that may have been taken by unit s + 1 and the straddlers taken are at least s
  pub step_bound : s ≤ full_by ws n (suc s) + ahead_by ws n s
  unfolding full_by
  step_bound = omega (arith, held_sum, places_le (held_at ws n s) (full_at ws n (suc s)) (length ws) (λ i l. held_within i))

  module _ (p : ℕ) (c : Takes ws (totals ws s) (suc s) p) where
    -- the taker takes a full unit: some were to be had
    full_taker : get_or (totals ws s) p 0 < lo ws n p → s < full_by ws n (suc s) + ahead_by ws n s
    unfolding full_by
    full_taker h =
        let r : get_or (totals ws s) p 0 + 1 ≤ reach (sum_of ws) (suc s) (get_or ws p 0) =
        (may_reach (sum_of ws) (suc s) (get_or ws p 0) (get_or (totals ws s) p 0) some).0 c.may in
        omega (
          arith,
          held_sum,
          places_lt (held_at ws n s) (full_at ws n (suc s)) p (length ws) c.partner (omega arith) (λ i l. held_within i),
        )

    -- the taker has its full units: so has every place that may take the unit
    pub others_full : lo ws n p ≤ get_or (totals ws s) p 0 → (i : ℕ) → i < length ws → may_at ws (totals ws s) (suc s) i ≡ true
        → lo ws n i ≤ get_or (totals ws s) i 0
    others_full h i l m =
        let W : ℕ = sum_of ws in
        let due_by_n : ¬ (get_or (totals ws s) i 0 < lo ws n i) =
        λ b. omega (
          arith,
          (due_full W (get_or ws p 0) (get_or (totals ws s) p 0) n some (weighs p c.may)).0
              (le_trans (c.smallest i l m) ((due_full W (get_or ws i 0) (get_or (totals ws s) i 0) n some (weighs i m)).1 (omega arith))),
        ) in
        omega arith
      where
        weighs : (j : ℕ) → may_at ws (totals ws s) (suc s) j ≡ true → 1 ≤ get_or ws j 0
        weighs j = may_weight (sum_of ws) (suc s) (get_or ws j 0) (get_or (totals ws s) j 0)

    -- then no full unit was to be had
    straddle_taker : lo ws n p ≤ get_or (totals ws s) p 0 → full_by ws n (suc s) + ahead_by ws n s ≡ s
    unfolding full_by
    straddle_taker h =
        omega (
          arith,
          step_bound,
          held_sum,
          places_le (full_at ws n (suc s)) (held_at ws n s) (length ws)
              (λ i l. go i l (may_at ws (totals ws s) (suc s) i) refl),
        )
      where
        go : (i : ℕ) → i < length ws → (m : Bool) → may_at ws (totals ws s) (suc s) i ≡ m → full_at ws n (suc s) i ≤ held_at ws n s i
        go i l true m = omega (arith, others_full h i l m)
        go i l false m = omega (arith, may_not_reach (sum_of ws) (suc s) (get_or ws i 0) (get_or (totals ws s) i 0) some m)

    -- unit s + 1 goes to a straddler, so that its taker has its full units and is not ahead, exactly where the full units that may have
    -- been taken by it and the straddlers taken are s
    pub step_straddles : s < n → (get_or (totals ws s) p 0 ≡ lo ws n p) ↔ (full_by ws n (suc s) + ahead_by ws n s ≡ s)
    step_straddles inside = (
      λ e. straddle_taker (omega arith),
      λ e. let late : ¬ (get_or (totals ws s) p 0 < lo ws n p) = λ h. omega (arith, full_taker h) in
          omega (arith, raised ws s p c, one_ahead ws some n (suc s) inside p),
    )

  -- where more full units may have been taken, the same places are ahead after unit s + 1
  pub step_full : s < full_by ws n (suc s) + ahead_by ws n s → (i : ℕ) → ahead_at ws n (suc s) i ≡ ahead_at ws n s i
  step_full h = each_place ws some (λ i. ahead_at ws n (suc s) i ≡ ahead_at ws n s i) s
      (λ p c e. let b : ¬ (lo ws n p ≤ get_or (totals ws s) p 0) = λ f. omega (arith, straddle_taker p c f) in omega arith)
      (λ p i c d e. omega arith)
