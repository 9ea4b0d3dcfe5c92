-- The walk over a window's units, in the program's own variables: after unit t the list says who is ahead, and `settled` counts the full
-- units that may have been taken by t and the straddlers taken. A unit with more settled than units before it is a full one; else as
-- many are settled, and the unit goes to a straddler. Assumes nothing.
use mathlib.Core.Path.{◌≡◌, refl, sym, ap, ◌∙◌}
use mathlib.Core.List.{List}
use Prim.Native.Nat.{ℕ, ◌+◌, ◌-◌, ◌≤◌, ◌<◌}
use native.Mathlib.Nat.{add-zero}
use native.Mathlib.Numerals.{add-one}
use native.Mathlib.Omega.{arith}
use lib.ListN.{length, get_or, set, replicate}
use Rattle.whole.specs.Sums.{sum_of}
use Rattle.units.specs.Rule.{Taker, nobody, place}
use Rattle.units.specs.Window.{full_by, ahead_by, straddler, mark, ahead_next, ahead_after}
use Rattle.units.proofs.Step.{step_bound}
use Rattle.units.proofs.Straddler.{straddler_free}
use Rattle.units.proofs.Window.{length_after, count_ahead, window_ahead}
use Rattle.units.proofs.Loops.{next_full, next_straddle, count_start, count_step, units_start, units_step, full_step}
use Rattle.units.proofs.Bounds.{full_bound, ahead_bound}
use Rattle.running.specs.Limits.{partners}
use Rattle.running.specs.Taking.{number_of, first_due}
use Rattle.running.specs.declared.full.Split.{Split}
use Rattle.running.specs.Running.{Starts, Listed}
use Rattle.running.proofs.Fitting.{some_weight}
use Rattle.running.proofs.Straddling.{Marked, straddler_is}

-- after unit t
pub record Walked (ws : List ℕ) (n u t : ℕ) (ahead : List ℕ) (settled : ℕ) : Type 0 where
  pub from : u ≤ t
  pub upto : t ≤ n
  pub who : ahead ≡ ahead_after (full_by ws n) ws n u (t - u)
  pub count : settled ≡ full_by ws n t + sum_of ahead

module _ (s : Split) (u : ℕ) (st : Starts s.weights s.n u) where
  pub walked_start : Walked s.weights s.n u u (replicate partners 0) (full_by s.weights s.n u)
  walked_start = record {
    from = omega arith;
    upto = st.before;
    who = sym (rw s.long at (units_start (full_by s.weights s.n) s.weights s.n u));
    count = rw (rw s.long at (count_start s.weights)) (sym (add-zero (full_by s.weights s.n u)));
  }

  some : 1 ≤ sum_of s.weights
  some = some_weight s

  module _ (t : ℕ) (ahead : List ℕ) (settled : ℕ) (w : Walked s.weights s.n u t ahead settled) where
    there : u + (t - u) ≡ t
    there = omega (arith, w.from)

    -- how many are ahead
    counted : sum_of ahead ≡ ahead_by s.weights s.n t
    counted =
        rw w.who
        (count_ahead s.weights some s.n t (ahead_after (full_by s.weights s.n) s.weights s.n u (t - u)) (length_after (full_by s.weights s.n) s.weights s.n u (t - u))
        (rw there at (window_ahead (full_by s.weights s.n) s.weights some s.n u st.light (λ k a b. refl) (t - u) (omega (arith, there, w.upto)))))

    pub long_ahead : length ahead ≡ length s.weights
    long_ahead = rw w.who (length_after (full_by s.weights s.n) s.weights s.n u (t - u))

    full_by_lem : (k : ℕ) → full_by s.weights s.n k ≤ s.n
    unfolding full_by
    full_by_lem k = full_bound s.weights s.n some k (length s.weights) (omega arith)

    module _ (slots : List ℕ) (c : Listed s.weights s.n u slots) (x : ℕ) (slot : x ≡ get_or slots (t - u) 0) where
      -- with the slot of unit t + 1
      pub settled_next : settled + x ≡ full_by s.weights s.n (t + 1) + sum_of ahead
      settled_next =
          let e : full_by s.weights s.n (t + 1) ≡ full_by s.weights s.n t + get_or slots (t - u) 0 =
          full_step s.weights some s.n u (length slots) c.fits t w.from ∙ ap (λ (l : List ℕ). full_by s.weights s.n t + get_or l (t - u) 0) (sym c.laid) in
          omega (arith, w.count, slot)

      pub settled_within : settled + x ≤ s.n + partners
      settled_within = omega (arith, settled_next, full_by_lem (t + 1), counted, ahead_bound s.weights s.n some t w.upto, s.long)

      -- so with one more it is small
      pub settled_small : settled + x ≤ 10016
      settled_small = omega (arith, settled_within, s.part)

      module _ (inside : t < s.n) where
        -- a full unit
        pub walked_full : t < settled + x → Walked s.weights s.n u (t + 1) ahead (settled + x)
        walked_full h = record {
          from = omega (arith, w.from);
          upto = omega arith;
          who =
              w.who
              ∙ sym (units_step (full_by s.weights s.n) s.weights s.n u t w.from
              ∙ next_full s.weights s.n (full_by s.weights s.n (t + 1)) (ahead_after (full_by s.weights s.n) s.weights s.n u (t - u)) t
              (omega (arith, settled_next, ap sum_of w.who)));
          count = settled_next;
        }

        -- a straddler: as many are settled as there are units before it
        pub settled_is : settled + x ≤ t → settled + x ≡ t
        settled_is h = omega (arith, settled_next, counted, rw (← add-one) at (step_bound s.weights some s.n t))

        module _ (h : settled + x ≤ t) (b : Taker) (e : straddler s.weights s.n ahead (t + 1) ≡ b) where
          marked : ahead_after (full_by s.weights s.n) s.weights s.n u (t + 1 - u) ≡ mark b ahead
          marked =
              units_step (full_by s.weights s.n) s.weights s.n u t w.from
              ∙ ap (λ (l : List ℕ). ahead_next s.weights s.n (full_by s.weights s.n (t + 1)) l t) (sym w.who)
              ∙ next_straddle s.weights s.n (full_by s.weights s.n (t + 1)) ahead t (omega (arith, settled_next)) b e

        -- the place that the scan finds is marked, and counted; where it finds none, nothing changes
        module _ (dues : List ℕ) (d : Marked s.weights s.sum s.full ahead dues) (h : settled + x ≤ t) (p : ℕ)
            (found : p ≡ number_of (first_due s.weights s.sum s.full dues (settled + x + 1))) where
          found_is : p ≡ number_of (straddler s.weights s.n ahead (t + 1))
          found_is =
              found
              ∙ ap (λ (k : ℕ). number_of (first_due s.weights s.sum s.full dues (k + 1))) (settled_is h)
              ∙ ap number_of (straddler_is s dues ahead (t + 1) d)

          pub walked_straddle : p < partners → Walked s.weights s.n u (t + 1) (set ahead p 1) (settled + x + 1)
          walked_straddle b = go (straddler s.weights s.n ahead (t + 1)) refl found_is
            where
              go : (k : Taker) → straddler s.weights s.n ahead (t + 1) ≡ k → p ≡ number_of k → Walked s.weights s.n u (t + 1) (set ahead p 1) (settled + x + 1)
              go nobody e f = absurd (omega arith)
              go (place q) e f =
                  rw f (record {
                    from = omega (arith, w.from);
                    upto = omega arith;
                    who = sym (marked h (place q) e);
                    count = omega (arith, settled_next, count_step s.weights s.n ahead (t + 1) q long_ahead e);
                  })

          pub walked_nobody : partners ≤ p → Walked s.weights s.n u (t + 1) ahead (settled + x)
          walked_nobody b = go (straddler s.weights s.n ahead (t + 1)) refl found_is
            where
              go : (k : Taker) → straddler s.weights s.n ahead (t + 1) ≡ k → p ≡ number_of k → Walked s.weights s.n u (t + 1) ahead (settled + x)
              go nobody e f = record {
                from = omega (arith, w.from);
                upto = omega arith;
                who = sym (marked h nobody e);
                count = settled_next;
              }
              go (place q) e f = absurd (omega (arith, (straddler_free s.weights s.n ahead (t + 1) q e).0, s.long))
