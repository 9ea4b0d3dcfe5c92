-- The place that is due first is the unit's taker: within a cycle every due number is before `late`, and someone takes each unit.
-- Assumes nothing.
use mathlib.Core.Path.{◌≡◌, sym, ap, ◌∙◌}
use mathlib.Core.List.{List}
use Prim.Native.Nat.{ℕ, suc, ◌+◌, ◌≤◌, ◌<◌}
use native.Mathlib.Numerals.{add-one}
use native.Mathlib.Omega.{arith}
use borrow.Author.Tests.{lt-ltb}
use lib.ListN.{length, get_or}
use Rattle.units.specs.Rule.{due, place, may_at, due_at, taker_of, totals}
use Rattle.units.proofs.Added.{taken}
use Rattle.units.proofs.Taker.{takes_taker, taker_takes}
use Rattle.units.proofs.Loops.{scan_same}
use Rattle.running.specs.Limits.{partners, weight_sum}
use Rattle.running.specs.Taking.{late, may_now, first_due, number_of}
use Rattle.running.proofs.Fitting.{due_early}
use Rattle.cycle.specs.Cycle.{Weighed, Walks}
use Rattle.cycle.proofs.Bounds.{some_weight, weight_within, total_within}

module _ {ws : List ℕ} {sum n : ℕ} {held dues : List ℕ} (w : Weighed ws sum) (long : length ws ≡ partners) (before : n < sum)
    (walk : Walks ws sum n held dues) where
  module _ (i : ℕ) (b : i < partners) where
    pub held_within : get_or held i 0 ≤ weight_sum
    held_within = omega (arith, ap (λ (l : List ℕ). get_or l i 0) walk.units, total_within ws sum w long n i b, w.most)

    due_at_lem : get_or dues i 0 ≡ due_at ws held i
    due_at_lem = walk.next i b ∙ ap (λ (x : ℕ). due x (get_or ws i 0) (get_or held i 0)) w.same

    early : get_or dues i 0 < late
    early = omega (arith, walk.next i b, due_early sum (get_or ws i 0) (get_or held i 0) w.most (weight_within ws sum w long i b) held_within)

    may_now_lem : may_now ws sum held dues (n + 1) i ≡ may_at ws held (n + 1) i
    may_now_lem = rw (lt-ltb (get_or dues i 0) late early, w.same)

  first_is : first_due ws sum held dues (n + 1) ≡ taker_of ws held (n + 1)
  unfolding first_due taker_of
  first_is =
      rw long
      (scan_same (may_at ws held (n + 1)) (due_at ws held) (may_now ws sum held dues (n + 1)) (λ i. get_or dues i 0) partners may_now_lem (λ i b m. due_at_lem i b))

  pub taker_found : (p : ℕ) → p ≡ number_of (first_due ws sum held dues (n + 1)) → taker_of ws held (n + 1) ≡ place p
  taker_found p e =
      let who = taken ws (some_weight ws sum w long) n in
      let f : taker_of ws held (n + 1) ≡ place who.0 = rw (walk.units, add-one) (takes_taker ws (totals ws n) (suc n) who.0 who.1) in
      f ∙ ap place (sym (e ∙ ap number_of (first_is ∙ f)))

  -- it is one of the places
  pub found_inside : (p : ℕ) → p ≡ number_of (first_due ws sum held dues (n + 1)) → p < partners
  found_inside p e = omega (arith, long, (taker_takes ws held (n + 1) p (taker_found p e)).partner)
