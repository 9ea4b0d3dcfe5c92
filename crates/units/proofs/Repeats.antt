-- The totals repeat after W units: at W both bounds are the weight, and from there a + w and t + W give every place the same test
-- and a due number later by W, so that the same place takes the unit. Assumes nothing.
use mathlib.Core.Path.{◌≡◌, sym, ap, ◌∙◌}
use mathlib.Core.List.{List}
use Prim.Native.Nat.{ℕ, zero, suc, ◌+◌, ◌-◌, ◌*◌, ◌/◌, ◌%◌, ◌≤◌, ◌<◌}
use native.Mathlib.Nat.{zero-add, suc-add, zero-mul, add-zero, le_antisymm, lt_of_mul-lt-mul_right, mul-div_cancel_left, add-mul-div_right, mod-add-div'}
use native.Mathlib.Omega.{arith}
use lib.ListN.{length, get_or}
use lib.Seq.{ext_get_or}
use Rattle.units.specs.Rule.{sum_of, may_take, due, place, may_at, due_at, totals}
use Rattle.units.specs.Wording.{Takes}
use Rattle.units.proofs.Best.{best_moved}
use Rattle.units.proofs.Due.{ltb_same, may_weight}
use Rattle.units.proofs.Taker.{best_takes, takes_best}
use Rattle.units.proofs.Added.{totals_none, length_totals, each_place, raised, kept}
use Rattle.units.proofs.Ceiling.{below_ceiling}
use Rattle.units.proofs.Floor.{floor}

-- after a cycle a place has the same test, and a due number later by W
may_later : (W t w a : ℕ) → may_take W (t + W) w (a + w) ≡ may_take W t w a
unfolding may_take
may_later W t w a = ltb_same (a * W) (t * w) ((a + w) * W) ((t + W) * w) (λ h. omega arith) (λ h. omega arith)

due_later : (W w a : ℕ) → 1 ≤ w → due W w (a + w) ≡ due W w a + W
unfolding due
due_later W w a some =
    let x : ℕ = (a + 1) * W + (w - 1) in
    let e : (a + w + 1) * W + (w - 1) ≡ x + W * w = omega arith in
    ap (λ (z : ℕ). z / w) e ∙ add-mul-div_right x W some

-- the place that takes unit t takes unit t + W, where each place has its weight more
takes_later : (ws held held' : List ℕ) (t p : ℕ) → ((i : ℕ) → get_or held' i 0 ≡ get_or held i 0 + get_or ws i 0)
    → Takes ws held t p → Takes ws held' (t + sum_of ws) p
takes_later ws held held' t p more c =
    let W : ℕ = sum_of ws in
    best_takes ws held' (t + W) p
    (best_moved (may_at ws held t) (may_at ws held' (t + W)) (due_at ws held) (due_at ws held') W (length ws) (place p)
    (λ i l. rw (more i) (may_later W t (get_or ws i 0) (get_or held i 0)))
    (λ i l m. rw (more i) (due_later W (get_or ws i 0) (get_or held i 0) (may_weight W t (get_or ws i 0) (get_or held i 0) m)))
    (takes_best ws held t p c))

module _ (ws : List ℕ) (some : 1 ≤ sum_of ws) where
  -- after W units each place has its weight
  pub whole_cycle : totals ws (sum_of ws) ≡ ws
  whole_cycle = ext_get_or 0 (totals ws (sum_of ws)) ws (length_totals ws (sum_of ws)) (λ i l. le_antisymm (most i) (least i))
    where
      most : (i : ℕ) → get_or (totals ws (sum_of ws)) i 0 ≤ get_or ws i 0
      most i =
          let h : get_or (totals ws (sum_of ws)) i 0 * sum_of ws < suc (get_or ws i 0) * sum_of ws = omega (arith, below_ceiling ws some (sum_of ws) i) in
          omega (arith, lt_of_mul-lt-mul_right (sum_of ws) h)

      least : (i : ℕ) → get_or ws i 0 ≤ get_or (totals ws (sum_of ws)) i 0
      least i = rw (mul-div_cancel_left (get_or ws i 0) some) at (floor ws some (sum_of ws) i)

  -- W units more give each place its weight more
  pub cycle_more : (n i : ℕ) → get_or (totals ws (n + sum_of ws)) i 0 ≡ get_or (totals ws n) i 0 + get_or ws i 0
  cycle_more zero i = rw (zero-add, whole_cycle, totals_none) (sym (zero-add (get_or ws i 0)))
  cycle_more (suc n) i = rw suc-add (go (cycle_more n))
    where
      go : ((j : ℕ) → get_or (totals ws (n + sum_of ws)) j 0 ≡ get_or (totals ws n) j 0 + get_or ws j 0)
          → get_or (totals ws (suc (n + sum_of ws))) i 0 ≡ get_or (totals ws (suc n)) i 0 + get_or ws i 0
      go more =
          each_place ws some (λ j. get_or (totals ws (suc (n + sum_of ws))) j 0 ≡ get_or (totals ws (suc n)) j 0 + get_or ws j 0) n
          (λ p c e. omega (arith, raised ws (n + sum_of ws) p (again p c), more p))
          (λ p j c d e. omega (arith, kept ws (n + sum_of ws) p (again p c) j d, more j))
          i
        where
          again : (p : ℕ) → Takes ws (totals ws n) (suc n) p → Takes ws (totals ws (n + sum_of ws)) (suc (n + sum_of ws)) p
          again p c = rw suc-add at (takes_later ws (totals ws n) (totals ws (n + sum_of ws)) (suc n) p more c)

  cycles : (q r i : ℕ) → get_or (totals ws (r + q * sum_of ws)) i 0 ≡ q * get_or ws i 0 + get_or (totals ws r) i 0
  cycles zero r i = rw (zero-mul (sum_of ws), add-zero) (omega arith)
  cycles (suc q) r i =
      let e : r + suc q * sum_of ws ≡ r + q * sum_of ws + sum_of ws = omega arith in
      rw e (omega (arith, cycle_more (r + q * sum_of ws) i, cycles q r i))

  -- the totals at n: the whole cycles, and the totals at what is left
  pub by_cycles : (n i : ℕ) → get_or (totals ws n) i 0 ≡ n / sum_of ws * get_or ws i 0 + get_or (totals ws (n % sum_of ws)) i 0
  by_cycles n i =
      ap (λ (k : ℕ). get_or (totals ws k) i 0) (sym (mod-add-div' n (sum_of ws))) ∙ cycles (n / sum_of ws) (n % sum_of ws) i
