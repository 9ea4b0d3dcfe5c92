-- The window's definitions in the variables of a program that follows them, a start, a step and an end for each loop: the sums over the
-- places, the slots filled place by place and unit by unit, and the units of the window. Each is the definition's own clause, or a law of
-- the window read at t = u + k. Assumes nothing.
use mathlib.Core.Path.{◌≡◌, refl, ap}
use mathlib.Core.Bool.{Bool, true}
use mathlib.Core.List.{List}
use Prim.Native.Nat.{ℕ, suc, ◌+◌, ◌-◌, ◌*◌, ◌/◌, ◌≤◌, ◌<◌, max}
use native.Mathlib.Nat.{sub_self}
use native.Mathlib.Numerals.{add-one}
use native.Mathlib.Omega.{arith}
use lib.ListN.{length, get_or, replicate}
use borrow.Author.Tests.{lt-ltb, le-ltb}
use Rattle.units.specs.Rule.{sum_of, Taker, nobody, place, better, best_of, totals}
use Rattle.units.specs.Window.{places_sum, lo, full_by, mass, straddler, mark, ahead_next, ahead_after}
use Rattle.units.specs.Calendar.{bump, first_at, fill_place, fill_places, calendar}
use Rattle.whole.proofs.Sums.{sum_noughts}
use Rattle.units.proofs.Best.{best_of_lem, best_one, best_moved}
use Rattle.units.proofs.Slots.{calendar_step}
use Rattle.units.proofs.Straddler.{straddler_free}
use Rattle.units.proofs.Window.{sum_mark, window_totals}

-- a sum over the places
module _ (f : ℕ → ℕ) where
  pub sum_start : places_sum f 0 ≡ 0
  unfolding places_sum
  sum_start = refl

  pub sum_step : (i : ℕ) → places_sum f (i + 1) ≡ places_sum f i + f i
  unfolding places_sum
  sum_step i = rw add-one

-- a scan over the places
module _ (may : ℕ → Bool) (owed : ℕ → ℕ) where
  pub scan_start : best_of may owed 0 ≡ nobody
  unfolding best_of
  scan_start = refl

  pub scan_step : (i : ℕ) → best_of may owed (i + 1) ≡ better may owed (best_of may owed i) i
  unfolding best_of
  scan_step i = rw add-one

  -- the same with a program's own test, and with due numbers of its own that need be right only of a place that may take the unit
  pub scan_same : (may' : ℕ → Bool) (owed' : ℕ → ℕ) (n : ℕ) → ((i : ℕ) → i < n → may' i ≡ may i) → ((i : ℕ) → i < n → may i ≡ true → owed' i ≡ owed i)
      → best_of may' owed' n ≡ best_of may owed n
  scan_same may' owed' n same moved =
      best_one may' owed' n (best_of may' owed' n) (best_of may owed n) (best_of_lem may' owed' n)
      (best_moved may may' owed owed' 0 n (best_of may owed n) same (λ i l m. omega (arith, moved i l m)) (best_of_lem may owed n))

-- the units of one place laid into the slots, m from the first that may not have been taken by u, up to the place's full units
module _ (ws : List ℕ) (u i : ℕ) (slots : List ℕ) where
  pub fill_start : fill_place ws u i slots (first_at ws u i - first_at ws u i) ≡ slots
  unfolding fill_place
  fill_start = rw sub_self

  pub fill_step : (m q : ℕ) → first_at ws u i ≤ m → m * sum_of ws / get_or ws i 0 ≡ q
      → fill_place ws u i slots (m + 1 - first_at ws u i) ≡ bump (fill_place ws u i slots (m - first_at ws u i)) (q - u)
  unfolding fill_place
  fill_step m q h e =
      let c : m + 1 - first_at ws u i ≡ suc (m - first_at ws u i) = omega arith in
      let d : first_at ws u i + (m - first_at ws u i) ≡ m = omega arith in
      rw (c, ← e) (ap (λ (x : ℕ). bump (fill_place ws u i slots (m - first_at ws u i)) (x * sum_of ws / get_or ws i 0 - u)) d)

  pub fill_end : (n m : ℕ) → lo ws n i ≤ m → m ≤ max (first_at ws u i) (lo ws n i)
      → fill_place ws u i slots (lo ws n i - first_at ws u i) ≡ fill_place ws u i slots (m - first_at ws u i)
  fill_end n m h l = let e : lo ws n i - first_at ws u i ≡ m - first_at ws u i = omega arith in rw e

  -- a place with none of its full units in the window
  pub fill_none : (n : ℕ) → lo ws n i ≤ first_at ws u i → fill_place ws u i slots (lo ws n i - first_at ws u i) ≡ slots
  unfolding fill_place
  fill_none n h = let e : lo ws n i - first_at ws u i ≡ 0 = omega arith in rw e

-- the places one after the other
module _ (ws : List ℕ) (n u : ℕ) (slots : List ℕ) where
  pub fills_start : fill_places ws n u slots 0 ≡ slots
  unfolding fill_places
  fills_start = refl

  pub fills_step : (i : ℕ) → fill_places ws n u slots (i + 1) ≡ fill_place ws u i (fill_places ws n u slots i) (lo ws n i - first_at ws u i)
  unfolding fill_places
  fills_step i = rw add-one

pub fills_end : (ws : List ℕ) (n u size : ℕ) → calendar ws n u size ≡ fill_places ws n u (replicate size 0) (length ws)
unfolding calendar
fills_end ws n u size = refl

-- one unit of the window
module _ (ws : List ℕ) (n full : ℕ) (ahead : List ℕ) (s : ℕ) where
  pub next_full : s < full + sum_of ahead → ahead_next ws n full ahead s ≡ ahead
  unfolding ahead_next
  next_full h = rw (lt-ltb s (full + sum_of ahead) h)

  pub next_straddle : full + sum_of ahead ≤ s → (b : Taker) → straddler ws n ahead (s + 1) ≡ b → ahead_next ws n full ahead s ≡ mark b ahead
  unfolding ahead_next
  next_straddle h b e = rw (le-ltb s (full + sum_of ahead) h) (ap (λ (c : Taker). mark c ahead) (rw add-one at e))

-- how many are ahead, counted: none at the start, and one more for each place that the scan finds
pub count_start : (ws : List ℕ) → sum_of (replicate (length ws) 0) ≡ 0
count_start ws = sum_noughts (length ws)

pub count_step : (ws : List ℕ) (n : ℕ) (ahead : List ℕ) (t p : ℕ) → length ahead ≡ length ws → straddler ws n ahead t ≡ place p
    → sum_of (mark (place p) ahead) ≡ sum_of ahead + 1
count_step ws n ahead t p long e =
    let free = straddler_free ws n ahead t p e in
    sum_mark p ahead (rw long free.0) free.1

-- the units of the window, t from u to n
module _ (full : ℕ → ℕ) (ws : List ℕ) (n u : ℕ) where
  pub units_start : ahead_after full ws n u (u - u) ≡ replicate (length ws) 0
  unfolding ahead_after
  units_start = rw sub_self

  pub units_step : (t : ℕ) → u ≤ t → ahead_after full ws n u (t + 1 - u) ≡ ahead_next ws n (full (t + 1)) (ahead_after full ws n u (t - u)) t
  unfolding ahead_after
  units_step t h =
      let c : t + 1 - u ≡ suc (t - u) = omega arith in
      let d : u + (t - u) ≡ t = omega arith in
      rw c (rw (d, add-one))

-- the full units that may have been taken, by the slots
module _ (ws : List ℕ) (some : 1 ≤ sum_of ws) (n u size : ℕ) (fits : n ≤ u + size) where
  pub full_step : (t : ℕ) → u ≤ t → full_by ws n (t + 1) ≡ full_by ws n t + get_or (calendar ws n u size) (t - u) 0
  full_step t h = let d : u + (t - u) ≡ t = omega arith in rw add-one (rw d at (calendar_step ws some n u size fits (t - u)))

-- the totals at n
module _ (ws : List ℕ) (some : 1 ≤ sum_of ws) (n u : ℕ) (light : mass ws n u < sum_of ws) (before : u ≤ n) where
  pub units_end : (i : ℕ) → get_or (totals ws n) i 0 ≡ lo ws n i + get_or (ahead_after (full_by ws n) ws n u (n - u)) i 0
  units_end = window_totals (full_by ws n) ws some n u light (λ t a b. refl) before
