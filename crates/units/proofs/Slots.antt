-- The slots of a window, filled place by place and unit by unit, count the full units that may first be taken by each of its units: the
-- first k slots hold what may have been taken by unit u + k beyond what may have been by u. At one place each unit laid down counts
-- among the first k exactly where it may be taken by u + k. Assumes nothing.
use mathlib.Core.Path.{◌≡◌, refl, sym, ap, ◌∙◌}
use mathlib.Core.List.{List}
use Prim.Native.Nat.{ℕ, zero, suc, ◌+◌, ◌-◌, ◌*◌, ◌/◌, ◌≤◌, ◌<◌, min}
use native.Mathlib.Nat.{div-lt_iff_lt-mul, le-div_iff_mul-le, add-suc}
use native.Mathlib.Decide.{dec_lt, dec_le}
use native.Mathlib.Omega.{arith}
use lib.ListN.{length, get_or, replicate, length-set, length-replicate}
use lib.Seq.{get_or-set_same, get_or-set_other}
use Rattle.units.specs.Rule.{sum_of}
use Rattle.units.specs.Window.{places_sum, lo, reach, full_at, full_by}
use Rattle.units.specs.Calendar.{bump, slots_sum, first_at, fill_place, fill_places, calendar}
use Rattle.whole.proofs.Sums.{sum_raised, get_d_noughts}
use Rattle.units.proofs.Places.{places_sum_lem, places_same, places_none}
use Rattle.units.proofs.Straddle.{reach_grows}
use Rattle.units.proofs.Calendar.{lands, full_weighs}

-- one more in slot j: the first k slots hold one more where j is among them, else the same
module _ (slots : List ℕ) (j k : ℕ) where
  bump_in : j < length slots → j < k → slots_sum (bump slots j) k ≡ slots_sum slots k + 1
  bump_in h l =
      let more : ℕ = get_or slots j 0 + 1 in
      places_sum_lem (λ i. get_or (bump slots j) i 0) k
      ∙ sum_raised (λ i. get_or (bump slots j) i 0) (λ i. get_or slots i 0) j k l (get_or-set_same slots j more 0 h) (λ i e. get_or-set_other slots j i more 0 e)
      ∙ ap (λ (s : ℕ). s + 1) (sym (places_sum_lem (λ i. get_or slots i 0) k))

  bump_out : k ≤ j → slots_sum (bump slots j) k ≡ slots_sum slots k
  bump_out h =
      places_same (λ i. get_or (bump slots j) i 0) (λ i. get_or slots i 0) k (λ i l. get_or-set_other slots j i (get_or slots j 0 + 1) 0 (omega arith))

pub length_fill : (ws : List ℕ) (u i : ℕ) (slots : List ℕ) (c : ℕ) → length (fill_place ws u i slots c) ≡ length slots
unfolding fill_place
length_fill ws u i slots zero = refl
length_fill ws u i slots (suc c) = length-set (fill_place ws u i slots c) _ _ ∙ length_fill ws u i slots c

pub length_fills : (ws : List ℕ) (n u : ℕ) (slots : List ℕ) (i : ℕ) → length (fill_places ws n u slots i) ≡ length slots
unfolding fill_places
length_fills ws n u slots zero = refl
length_fills ws n u slots (suc i) = length_fill ws u i (fill_places ws n u slots i) (lo ws n i - first_at ws u i) ∙ length_fills ws n u slots i

module _ (ws : List ℕ) (some : 1 ≤ sum_of ws) (n u i : ℕ) where
  -- a full unit of the window, number m + 1 of place i, may first be taken after u and by n
  module _ (m : ℕ) (from : first_at ws u i ≤ m) (full : m < lo ws n i) where
    pub slot_weighs : 1 ≤ get_or ws i 0
    slot_weighs = full_weighs n (get_or ws i 0) (sum_of ws) (omega arith)

    pub slot_after : u ≤ m * sum_of ws / get_or ws i 0
    slot_after =
        let late : ¬ (m * sum_of ws / get_or ws i 0 < u) = λ b. omega (arith, (lands (sum_of ws) (get_or ws i 0) m u some slot_weighs).0 b) in
        omega arith

    pub slot_before : m * sum_of ws / get_or ws i 0 < n
    slot_before = (div-lt_iff_lt-mul slot_weighs).1 (omega (arith, (le-div_iff_mul-le {x = suc m} some).0 full))

    -- its slot is one of the window's
    pub slot_fits : (size : ℕ) → n ≤ u + size → m * sum_of ws / get_or ws i 0 - u < size
    slot_fits size h = omega (arith, slot_after, slot_before)

    -- laid down, it counts among the first k slots exactly where it may be taken by unit u + k
    laid : (slots : List ℕ) → n ≤ u + length slots → (k : ℕ)
        → slots_sum (bump slots (m * sum_of ws / get_or ws i 0 - u)) k + min m (reach (sum_of ws) (u + k) (get_or ws i 0))
        ≡ slots_sum slots k + min (suc m) (reach (sum_of ws) (u + k) (get_or ws i 0))
    laid slots fits k = go (dec_lt q (u + k))
      where
        q : ℕ
        q = m * sum_of ws / get_or ws i 0

        r : ℕ
        r = reach (sum_of ws) (u + k) (get_or ws i 0)

        go : Dec (q < u + k) → slots_sum (bump slots (q - u)) k + min m r ≡ slots_sum slots k + min (suc m) r
        go (yes l) =
            omega (
              arith,
              (lands (sum_of ws) (get_or ws i 0) m (u + k) some slot_weighs).0 l,
              bump_in slots (q - u) k (slot_fits (length slots) fits) (omega (arith, slot_after)),
            )
        go (no l) =
            let late : ¬ (m < r) = λ b. omega (arith, (lands (sum_of ws) (get_or ws i 0) m (u + k) some slot_weighs).1 b) in
            omega (arith, bump_out slots (q - u) k (omega (arith, slot_after)))

  module _ (slots : List ℕ) (fits : n ≤ u + length slots) (k : ℕ) where
    -- c units of one place
    fill_sum : (c : ℕ) → first_at ws u i + c ≤ lo ws n i
        → slots_sum (fill_place ws u i slots c) k + first_at ws u i ≡ slots_sum slots k + min (first_at ws u i + c) (reach (sum_of ws) (u + k) (get_or ws i 0))
    unfolding fill_place
    fill_sum zero h = omega (arith, reach_grows (sum_of ws) u (u + k) (get_or ws i 0) some (omega arith))
    fill_sum (suc c) h =
        omega (
          arith,
          fill_sum c (omega arith),
          laid (first_at ws u i + c) (omega arith) (omega arith) (fill_place ws u i slots c) (rw length_fill fits) k,
        )

    -- all full units of one place
    fill_full : slots_sum (fill_place ws u i slots (lo ws n i - first_at ws u i)) k + full_at ws n u i ≡ slots_sum slots k + full_at ws n (u + k) i
    unfolding fill_place
    fill_full = go (dec_le (first_at ws u i) (lo ws n i))
      where
        go : Dec (first_at ws u i ≤ lo ws n i)
            → slots_sum (fill_place ws u i slots (lo ws n i - first_at ws u i)) k + full_at ws n u i ≡ slots_sum slots k + full_at ws n (u + k) i
        go (yes h) =
            let e : first_at ws u i + (lo ws n i - first_at ws u i) ≡ lo ws n i = omega arith in
            omega (arith, rw e at (fill_sum (lo ws n i - first_at ws u i) (omega arith)))
        go (no h) =
            let e : lo ws n i - first_at ws u i ≡ 0 = omega arith in
            rw e (omega (arith, reach_grows (sum_of ws) u (u + k) (get_or ws i 0) some (omega arith)))

module _ (ws : List ℕ) (some : 1 ≤ sum_of ws) (n u : ℕ) where
  -- the first i places
  fills_sum : (slots : List ℕ) → n ≤ u + length slots → (k i : ℕ)
      → slots_sum (fill_places ws n u slots i) k + places_sum (full_at ws n u) i ≡ slots_sum slots k + places_sum (full_at ws n (u + k)) i
  unfolding fill_places places_sum
  fills_sum slots fits k zero = refl
  fills_sum slots fits k (suc i) =
      omega (arith, fills_sum slots fits k i, fill_full ws some n u i (fill_places ws n u slots i) (rw length_fills fits) k)

  module _ (size : ℕ) (fits : n ≤ u + size) where
    -- the window's slots, as many as there are units from u to n or more: the first k of them
    pub calendar_sum : (k : ℕ) → full_by ws n (u + k) ≡ full_by ws n u + slots_sum (calendar ws n u size) k
    unfolding full_by calendar
    calendar_sum k =
        omega (
          arith,
          fills_sum (replicate size 0) (rw length-replicate fits) k (length ws),
          places_none (λ j. get_or (replicate size 0) j 0) k (get_d_noughts size),
        )

    -- and one after the other
    pub calendar_step : (k : ℕ) → full_by ws n (suc (u + k)) ≡ full_by ws n (u + k) + get_or (calendar ws n u size) k 0
    unfolding places_sum
    calendar_step k = omega (arith, calendar_sum k, rw add-suc at (calendar_sum (suc k)))
