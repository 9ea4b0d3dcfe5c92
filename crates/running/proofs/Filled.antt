-- The calendar of a window, place by place, in the program's own variables: after i places the slots are the definition's, and `taken`
-- counts the full units of those places that may have been taken by u. Assumes nothing.
use mathlib.Core.Path.{◌≡◌, sym, ap, ap₂, ◌∙◌}
use mathlib.Core.List.{List}
use Prim.Native.Nat.{ℕ, ◌+◌, ◌-◌, ◌*◌, ◌/◌, ◌≤◌, ◌<◌}
use native.Mathlib.Nat.{div-mul-le_self, mul-le-mul_right}
use native.Mathlib.Omega.{arith}
use lib.ListN.{length, get_or, replicate, length-replicate}
use Rattle.whole.specs.Sums.{sum_of}
use Rattle.units.specs.Window.{places_sum, lo, reach, full_at, full_by}
use Rattle.units.specs.Calendar.{first_at, fill_place, fill_places}
use Rattle.units.proofs.Straddle.{below_reach}
use Rattle.units.proofs.Calendar.{full_weighs}
use Rattle.units.proofs.Slots.{length_fills}
use Rattle.units.proofs.Loops.{sum_start, sum_step, fill_none, fills_start, fills_step, fills_end}
use Rattle.units.proofs.Bounds.{fills_bound, lo_sum, full_bound}
use Rattle.running.specs.Limits.{partners}
use Rattle.running.specs.declared.full.Split.{Split}
use Rattle.running.specs.Running.{Listed, Empty, Laying, fill_by}
use Rattle.running.proofs.Fitting.{some_weight, weight_within}
use Rattle.running.proofs.Laid.{fill_place_lem}

-- after i places
pub record Filled (ws : List ℕ) (n u : ℕ) (slots : List ℕ) (i taken : ℕ) (held : List ℕ) : Type 0 where
  pub upto : i ≤ partners
  pub laid : held ≡ fill_places ws n u (replicate (length slots) 0) i
  pub count : taken ≡ places_sum (full_at ws n u) i

module _ {ws : List ℕ} {n u : ℕ} {slots : List ℕ} where
  pub length_filled : {i taken : ℕ} {held : List ℕ} → Filled ws n u slots i taken held → length held ≡ length slots
  length_filled {i} {taken} {held} f =
      ap length f.laid ∙ length_fills ws n u (replicate (length slots) 0) i ∙ length-replicate (length slots) 0

  pub filled_start : Empty n u slots → Filled ws n u slots 0 0 slots
  filled_start e = record {
    upto = omega arith;
    laid = e.empty ∙ sym (fills_start ws n u (replicate (length slots) 0));
    count = sym (sum_start (full_at ws n u));
  }

module _ (s : Split) {u : ℕ} {slots : List ℕ} (e : Empty s.n u slots) {i taken : ℕ} {held : List ℕ} (f : Filled s.weights s.n u slots i taken held)
    (b : i < partners) where
  some : 1 ≤ sum_of s.weights
  some = some_weight s

  -- the first unit that may not have been taken by u, as the program reckons it
  first_is : (u * get_or s.weights i 0 + (s.sum - 1)) / s.sum ≡ first_at s.weights u i
  unfolding reach
  first_is = rw s.same

  full_sum : places_sum (lo s.weights s.n) i + lo s.weights s.n i ≤ s.n
  full_sum = omega (arith, sum_step (lo s.weights s.n) i, lo_sum s.weights s.n some (i + 1) (omega arith))

  taken_within : taken + full_at s.weights s.n u i ≤ s.n
  taken_within = omega (arith, f.count, sum_step (full_at s.weights s.n u) i, full_bound s.weights s.n some u (i + 1) (omega arith))

  module _ (first : ℕ) (is : first ≡ (u * get_or s.weights i 0 + (s.sum - 1)) / s.sum) where
    from : first ≡ first_at s.weights u i
    from = is ∙ first_is

    -- some of its full units are in the window
    module _ (more : first < get_or s.full i 0) where
      more_units : first_at s.weights u i < lo s.weights s.n i
      more_units = omega (arith, from, s.shares i b)

      pub taken_first : taken + first ≤ s.n
      taken_first = omega (arith, taken_within, from, more_units)

      pub laying : Laying (get_or s.weights i 0) s.sum u first (get_or s.full i 0) held
      laying = record {
        some = s.some;
        most = s.most;
        weighs = full_weighs s.n (get_or s.weights i 0) (sum_of s.weights) (omega (arith, more_units));
        heavy = weight_within s i;
        units = omega arith;
        after = after_first;
        fits = fits_slots;
        room = λ j. omega (arith, ap (λ (l : List ℕ). get_or l j 0) f.laid, fills_bound s.weights s.n u (length slots) j i, full_sum, s.shares i b, s.part);
      }
        where
          after_first : u * get_or s.weights i 0 ≤ first * s.sum
          after_first =
              let r : ℕ = reach (sum_of s.weights) u (get_or s.weights i 0) in
              let h : ¬ (r * sum_of s.weights < u * get_or s.weights i 0) = λ c. omega (arith, (below_reach (sum_of s.weights) u (get_or s.weights i 0) r some).0 c) in
              rw (from, s.same) (omega arith)

          fits_slots : get_or s.full i 0 * s.sum ≤ (u + length held) * get_or s.weights i 0
          fits_slots =
              rw (s.shares i b, s.same, length_filled f)
              (omega (arith, div-mul-le_self (s.n * get_or s.weights i 0) (sum_of s.weights), mul-le-mul_right (get_or s.weights i 0) e.fits))

      pub filled_lay : (next : List ℕ) → next ≡ fill_by (get_or s.weights i 0) s.sum u first held (get_or s.full i 0 - first) → Filled s.weights s.n u slots (i + 1) (taken + first) next
      filled_lay next h = record {
        upto = omega arith;
        laid = h ∙ to ∙ sym (fills_step s.weights s.n u (replicate (length slots) 0) i);
        count = omega (arith, f.count, from, sum_step (full_at s.weights s.n u) i, more_units);
      }
        where
          to : fill_by (get_or s.weights i 0) s.sum u first held (get_or s.full i 0 - first)
              ≡ fill_place s.weights u i (fill_places s.weights s.n u (replicate (length slots) 0) i) (lo s.weights s.n i - first_at s.weights u i)
          to = rw (s.shares i b, s.same, from, f.laid) (fill_place_lem s.weights u i (fill_places s.weights s.n u (replicate (length slots) 0) i) (lo s.weights s.n i - first_at s.weights u i))

    -- none of them is
    pub taken_full : get_or s.full i 0 ≤ first → taken + get_or s.full i 0 ≤ s.n
    taken_full h = omega (arith, taken_within, from, s.shares i b)

    pub filled_none : get_or s.full i 0 ≤ first → Filled s.weights s.n u slots (i + 1) (taken + get_or s.full i 0) held
    filled_none h = record {
      upto = omega arith;
      laid =
          f.laid
          ∙ sym (fills_step s.weights s.n u (replicate (length slots) 0) i
          ∙ fill_none s.weights u i (fill_places s.weights s.n u (replicate (length slots) 0) i) s.n (omega (arith, from, s.shares i b)));
      count = omega (arith, f.count, from, sum_step (full_at s.weights s.n u) i, s.shares i b);
    }

-- after all places
module _ (s : Split) {u : ℕ} {slots : List ℕ} (e : Empty s.n u slots) {i taken : ℕ} {held : List ℕ} (f : Filled s.weights s.n u slots i taken held)
    (end : partners ≤ i) where
  all : i ≡ length s.weights
  all = omega (arith, f.upto, s.long)

  pub filled_count : taken ≡ full_by s.weights s.n u
  unfolding full_by
  filled_count = f.count ∙ ap (places_sum (full_at s.weights s.n u)) all

  pub filled_listed : Listed s.weights s.n u held
  filled_listed =
      let size : length held ≡ length slots = length_filled f in
      record {
        fits = omega (arith, e.fits);
        laid = f.laid ∙ ap₂ (λ (k m : ℕ). fill_places s.weights s.n u (replicate k 0) m) (sym size) all ∙ sym (fills_end s.weights s.n u (length held));
      }
