-- The walk over the units, in the program's own variables: after n of them the places hold the totals at n, each with the due number of its
-- next unit, and the table has the rows below n. Unit n + 1 raises its taker's total by one and changes its due number, and no other's.
-- Assumes nothing.
use mathlib.Core.Path.{◌≡◌, sym, ap, ◌∙◌}
use mathlib.Core.List.{List}
use Prim.Native.Nat.{ℕ, ◌+◌, ◌≤◌, ◌<◌}
use native.Mathlib.Decide.{ℕ_discrete}
use native.Mathlib.Omega.{arith}
use lib.ListN.{length, get_or, set, length-set}
use lib.Seq.{get_or-set_same, get_or-set_other}
use Rattle.whole.specs.Lists.{filled}
use Rattle.whole.proofs.Sums.{get_d_noughts}
use Rattle.whole.proofs.Lists.{length_filled, fill_none, fill_more}
use Rattle.units.specs.Rule.{due, Taker, place, taker_of, give, totals}
use Rattle.units.specs.Mask.{mask}
use Rattle.units.proofs.Added.{length_totals}
use Rattle.units.proofs.Taker.{taker_takes}
use Rattle.units.proofs.Mask.{walk_start, walk_step}
use Rattle.running.specs.Limits.{partners, weight_sum, zeros}
use Rattle.running.specs.Taking.{late, due_by, dues_by}
use Rattle.running.specs.Running.{Small}
use Rattle.running.proofs.FirstDue.{due_is}
use Rattle.running.proofs.Fitting.{due_early, dues_are}
use Rattle.cycle.specs.Cycle.{Weighed, Walks}
use Rattle.cycle.proofs.Bounds.{weight_within, total_within}

-- after n units
pub record Walked (ws : List ℕ) (sum : ℕ) (table₀ : List ℕ) (n : ℕ) (held dues table : List ℕ) : Type 0 where
  pub upto : n ≤ sum
  pub walk : Walks ws sum n held dues
  pub sixteen : length dues ≡ partners
  pub rows : table ≡ filled 0 (mask ws) n table₀

module _ {ws : List ℕ} {sum : ℕ} {table₀ : List ℕ} (w : Weighed ws sum) (long : length ws ≡ partners) (fits : sum ≤ length table₀) where
  pub walked_start : {dues : List ℕ} → length dues ≡ partners → dues ≡ dues_by ws sum zeros → Walked ws sum table₀ 0 zeros dues table₀
  walked_start {dues} sixteen d = record {
    upto = omega arith;
    walk = record { units = sym (rw long at (walk_start ws)); next = λ i b. ap (λ (l : List ℕ). get_or l i 0) d ∙ dues_are ws sum zeros small i b };
    sixteen = sixteen;
    rows = fill_none 0 (mask ws) table₀;
  }
    where
      small : Small ws sum zeros
      small = record { weigh = weight_within ws sum w long; most = w.most; units = λ i b. rw (get_d_noughts partners i) (omega arith) }

  module _ {n : ℕ} {held dues table : List ℕ} (k : Walked ws sum table₀ n held dues table) where
    pub length_walked : length table ≡ length table₀
    length_walked = ap length k.rows ∙ length_filled 0 (mask ws) table₀ n

    module _ {p : ℕ} (b : n < sum) (e : taker_of ws held (n + 1) ≡ place p) where
      pub taker_inside : p < partners
      taker_inside = omega (arith, (taker_takes ws held (n + 1) p e).partner)

      raised : set held p (get_or held p 0 + 1) ≡ totals ws (n + 1)
      raised =
          ap (λ (t : Taker). give t held) (sym e) ∙ ap (λ (l : List ℕ). give (taker_of ws l (n + 1)) l) k.walk.units ∙ sym (walk_step ws n)

      long_held : length held ≡ partners
      long_held = rw k.walk.units (length_totals ws n ∙ long)

      pub raised_within : get_or held p 0 < weight_sum
      raised_within = omega (arith, ap (λ (l : List ℕ). get_or l p 0) k.walk.units, total_within ws sum w long n p taker_inside, w.most)

      pub walked_step : {r d : ℕ} → r ≡ mask ws n → d ≡ due_by sum (get_or ws p 0) (get_or held p 0 + 1)
          → Walked ws sum table₀ (n + 1) (set held p (get_or held p 0 + 1)) (set dues p d) (set table n r)
      walked_step {r} {d} row here = record {
        upto = omega arith;
        walk = record { units = raised; next = λ i c. go i c (ℕ_discrete i p) };
        sixteen = length-set dues p d ∙ k.sixteen;
        rows = fill_more 0 (mask ws) table₀ table n n r k.rows (omega arith) row;
      }
        where
          early : due sum (get_or ws p 0) (get_or held p 0 + 1) < late
          early = due_early sum (get_or ws p 0) (get_or held p 0 + 1) w.most (weight_within ws sum w long p taker_inside) (omega (arith, raised_within))

          go : (i : ℕ) → i < partners → Dec (i ≡ p) → get_or (set dues p d) i 0 ≡ due sum (get_or ws i 0) (get_or (set held p (get_or held p 0 + 1)) i 0)
          go i c (yes f) =
              rw (f, get_or-set_same held p (get_or held p 0 + 1) 0 (omega (arith, taker_inside, long_held)), get_or-set_same dues p d 0 (omega (arith, taker_inside, k.sixteen))) (here ∙ due_is sum (get_or ws p 0) (get_or held p 0 + 1) early)
          go i c (no f) = rw (get_or-set_other held p i (get_or held p 0 + 1) 0 f) (get_or-set_other dues p i d 0 f ∙ k.walk.next i c)
