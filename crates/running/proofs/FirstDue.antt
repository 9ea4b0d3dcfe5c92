-- The scan for the place that is due first, in the program's own variables; and that it finds the rule's best place, where the due numbers
-- are right of every place that may take the unit, and late of every other that the rule leaves out. Assumes nothing.
use mathlib.Core.Path.{◌≡◌, refl, sym, ◌∙◌}
use mathlib.Core.Bool.{Bool, true, false, cond}
use mathlib.Core.List.{List}
use Prim.Native.Nat.{ℕ, ◌+◌, ◌-◌, ◌*◌, ◌/◌, ◌≤◌, ◌<◌}
use native.Mathlib.Nat.{div-zero}
use native.Mathlib.Omega.{arith}
use borrow.Author.Tests.{lt-ltb, le-ltb, ltb-true}
use lib.Dec.{ltb}
use lib.ListN.{get_or}
use Rattle.units.specs.Rule.{may_take, due}
use Rattle.running.specs.Taking.{late, due_by, may_now, first_due, number_of}
use Rattle.running.proofs.Scan.{Scanned, scan_start, scan_not, scan_kept, scan_taken, scan_end}

-- a due number before `late` is itself
pub due_is : (W w a : ℕ) → due W w a < late → due_by W w a ≡ due W w a
unfolding due_by
due_is W w a h = rw (lt-ltb (due W w a) late h)

pub due_late : (W w a : ℕ) → late ≤ due W w a → due_by W w a ≡ late
unfolding due_by
due_late W w a h = rw (le-ltb (due W w a) late h)

-- as a program has them: a quotient by 0 is 0
pub due_of_none : (W w a : ℕ) → w ≡ 0 → 0 ≡ due_by W w a
unfolding due
due_of_none W w a e = let zero : due W 0 a ≡ 0 = div-zero ((a + 1) * W + (0 - 1)) in rw e (sym (due_is W 0 a (omega (arith, zero)) ∙ zero))

module _ (W w a x : ℕ) (e : x ≡ ((a + 1) * W + (w - 1)) / w) where
  pub due_before : x < late → x ≡ due_by W w a
  unfolding due
  due_before h = e ∙ sym (due_is W w a (omega (arith, e)))

  pub due_after : late ≤ x → late ≡ due_by W w a
  unfolding due
  due_after h = sym (due_late W w a (omega (arith, e)))

module _ (ws : List ℕ) (W : ℕ) (held dues : List ℕ) (t : ℕ) where
  -- the best of the first i places, and its due number
  pub record Scan (i best least : ℕ) : Type 0 where
    pub upto : i ≤ 16
    pub before : least ≤ late
    pub found : Scanned (may_now ws W held dues t) (λ k. get_or dues k 0) i best least

  pub start : Scan 0 16 late
  start = record { upto = omega arith; before = omega arith; found = scan_start (may_now ws W held dues t) (λ k. get_or dues k 0) }

  early : (x y : Bool) → cond x y false ≡ true → x ≡ true
  early true y e = refl
  early false y e = e

  module _ (i best least : ℕ) (so_far : Scan i best least) (inside : i < 16) where
    kept : (m : Bool) → may_now ws W held dues t i ≡ m → least ≤ get_or dues i 0
        → Scanned (may_now ws W held dues t) (λ k. get_or dues k 0) (i + 1) best least
    kept false e h = scan_not (may_now ws W held dues t) (λ k. get_or dues k 0) i best least so_far.found e
    kept true e h =
        scan_kept (may_now ws W held dues t) (λ k. get_or dues k 0) i best least so_far.found e
        (ltb-true (get_or dues i 0) late (early (ltb (get_or dues i 0) late) (may_take W t (get_or ws i 0) (get_or held i 0)) e)) h

    -- place i is no sooner due
    pub later : least ≤ get_or dues i 0 → Scan (i + 1) best least
    later h = record { upto = omega arith; before = so_far.before; found = kept (may_now ws W held dues t i) refl h }

    -- it may not take the unit
    pub not_yet : t * get_or ws i 0 ≤ get_or held i 0 * W → get_or dues i 0 < least → Scan (i + 1) best least
    unfolding may_take
    not_yet h sooner = record {
      upto = omega arith;
      before = so_far.before;
      found = scan_not (may_now ws W held dues t) (λ k. get_or dues k 0) i best least so_far.found
          (rw (lt-ltb (get_or dues i 0) late (omega (arith, so_far.before)), le-ltb (get_or held i 0 * W) (t * get_or ws i 0) h));
    }

    -- it may, and is sooner due
    pub sooner_due : get_or held i 0 * W < t * get_or ws i 0 → get_or dues i 0 < least → Scan (i + 1) i (get_or dues i 0)
    unfolding may_take
    sooner_due h sooner = record {
      upto = omega arith;
      before = omega (arith, so_far.before);
      found = scan_taken (may_now ws W held dues t) (λ k. get_or dues k 0) i best least so_far.found
          (rw (lt-ltb (get_or dues i 0) late (omega (arith, so_far.before))) (lt-ltb (get_or held i 0 * W) (t * get_or ws i 0) h)) sooner;
    }

  -- after all places
  pub scan_over : (i best least : ℕ) → Scan i best least → 16 ≤ i → best ≡ number_of (first_due ws W held dues t)
  unfolding first_due
  scan_over i best least s h = let e : i ≡ 16 = omega (arith, s.upto) in scan_end (may_now ws W held dues t) (λ k. get_or dues k 0) 16 best least (rw e at s.found)
