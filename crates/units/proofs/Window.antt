-- The totals at n from a window of units: from a unit u at which the mass is below W, the model's list after k units says exactly who
-- is ahead after unit u + k; so at n each total is the place's share rounded down, and one more where the list says so. By induction on
-- the number of units, from the start, by the step. Assumes nothing.
use mathlib.Core.Path.{◌≡◌, refl, sym, ap, ◌∙◌}
use mathlib.Core.Bool.{Bool, true, false, cond}
use mathlib.Core.List.{List}
use Prim.Native.Nat.{ℕ, zero, suc, ◌+◌, ◌-◌, ◌≤◌, ◌<◌}
use native.Mathlib.Nat.{add-zero, add-suc}
use native.Mathlib.Decide.{ℕ_discrete}
use native.Mathlib.Omega.{arith}
use lib.Dec.{ltb}
use lib.ListN.{length, get_or, set, length-set, length-replicate}
use lib.Seq.{get_or-set_same, get_or-set_other}
use borrow.Author.Tests.{ltb-true, ltb-false}
use Rattle.units.specs.Rule.{sum_of, Taker, nobody, place, totals}
use Rattle.units.specs.Wording.{Takes}
use Rattle.units.specs.Window.{lo, full_by, mass, ahead_at, ahead_by, straddler, mark, ahead_next, ahead_after}
use Rattle.whole.proofs.Sums.{sum_list, sum_set, get_d_noughts}
use Rattle.units.proofs.Places.{places_sum_lem, places_same}
use Rattle.units.proofs.Added.{taken, raised, kept}
use Rattle.units.proofs.Straddle.{ahead_end}
use Rattle.units.proofs.Step.{step_bound, step_full, step_straddles}
use Rattle.units.proofs.Straddler.{straddler_takes}
use Rattle.units.proofs.Start.{start}

length_mark : (b : Taker) (ahead : List ℕ) → length (mark b ahead) ≡ length ahead
length_mark nobody ahead = refl
length_mark (place p) ahead = length-set ahead p 1

-- a place that is not ahead is marked: one more is
pub sum_mark : (p : ℕ) (ahead : List ℕ) → p < length ahead → get_or ahead p 0 ≡ 0 → sum_of (mark (place p) ahead) ≡ sum_of ahead + 1
sum_mark p ahead h e = rw e at (sum_set ahead p h)

pub length_next : (ws : List ℕ) (n full : ℕ) (ahead : List ℕ) (s : ℕ) → length (ahead_next ws n full ahead s) ≡ length ahead
unfolding ahead_next
length_next ws n full ahead s = go (ltb s (full + sum_of ahead))
  where
    go : (b : Bool) → length (cond b ahead (mark (straddler ws n ahead (suc s)) ahead)) ≡ length ahead
    go true = refl
    go false = length_mark (straddler ws n ahead (suc s)) ahead

-- one unit
module _ (ws : List ℕ) (some : 1 ≤ sum_of ws) (n s : ℕ) (ahead : List ℕ) (long : length ahead ≡ length ws)
    (who : (i : ℕ) → get_or ahead i 0 ≡ ahead_at ws n s i) where
  -- how many the list says are ahead
  pub count_ahead : sum_of ahead ≡ ahead_by ws n s
  unfolding ahead_by
  count_ahead =
      sym (sum_list ahead (length ws) long)
      ∙ sym (places_sum_lem (λ i. get_or ahead i 0) (length ws))
      ∙ places_same (λ i. get_or ahead i 0) (ahead_at ws n s) (length ws) (λ i l. who i)

  module _ (inside : s < n) where
    marked : (p : ℕ) → Takes ws (totals ws s) (suc s) p → full_by ws n (suc s) + ahead_by ws n s ≡ s
        → (i : ℕ) → get_or (mark (straddler ws n ahead (suc s)) ahead) i 0 ≡ ahead_at ws n (suc s) i
    marked p c none i = rw (straddler_takes ws some n s inside ahead (λ j l. who j) p c none) (go (ℕ_discrete i p))
      where
        go : Dec (i ≡ p) → get_or (set ahead p 1) i 0 ≡ ahead_at ws n (suc s) i
        go (yes e) = rw e
            (get_or-set_same ahead p 1 0 (rw long c.partner)
            ∙ omega (arith, raised ws s p c, (step_straddles ws some n s p c inside).1 none))
        go (no e) = get_or-set_other ahead p i 1 0 e ∙ who i ∙ omega (arith, kept ws s p c i e)

    -- the model's step: the list after unit s + 1 says who is ahead then
    pub next_ahead : (i : ℕ) → get_or (ahead_next ws n (full_by ws n (suc s)) ahead s) i 0 ≡ ahead_at ws n (suc s) i
    unfolding ahead_next
    next_ahead i = go (ltb s (full_by ws n (suc s) + sum_of ahead)) refl
      where
        go : (b : Bool) → ltb s (full_by ws n (suc s) + sum_of ahead) ≡ b
            → get_or (cond b ahead (mark (straddler ws n ahead (suc s)) ahead)) i 0 ≡ ahead_at ws n (suc s) i
        go true e = who i ∙ sym (step_full ws some n s (omega (arith, ltb-true s (full_by ws n (suc s) + sum_of ahead) e, count_ahead)) i)
        go false e =
            marked (taken ws some s).0 (taken ws some s).1
            (omega (arith, ltb-false s (full_by ws n (suc s) + sum_of ahead) e, count_ahead, step_bound ws some n s)) i

pub length_after : (full : ℕ → ℕ) (ws : List ℕ) (n u k : ℕ) → length (ahead_after full ws n u k) ≡ length ws
unfolding ahead_after
length_after full ws n u zero = length-replicate (length ws) 0
length_after full ws n u (suc k) = length_next ws n (full (suc (u + k))) (ahead_after full ws n u k) (u + k) ∙ length_after full ws n u k

-- the window from u, where `full` says what `full_by` does of its units
module _ (full : ℕ → ℕ) (ws : List ℕ) (some : 1 ≤ sum_of ws) (n u : ℕ) (light : mass ws n u < sum_of ws)
    (right : (t : ℕ) → u < t → t ≤ n → full t ≡ full_by ws n t) where
  -- the list after k units says who is ahead after unit u + k
  pub window_ahead : (k : ℕ) → u + k ≤ n → (i : ℕ) → get_or (ahead_after full ws n u k) i 0 ≡ ahead_at ws n (u + k) i
  unfolding ahead_after
  window_ahead zero h i = get_d_noughts (length ws) i ∙ sym (rw add-zero (start ws n some u light u (omega arith) i))
  window_ahead (suc k) h i =
      rw (add-suc u k, right (suc (u + k)) (omega arith) (omega arith))
      (next_ahead ws some n (u + k) (ahead_after full ws n u k) (length_after full ws n u k) (window_ahead k (omega arith)) (omega arith) i)

  -- the totals at n
  pub window_totals : u ≤ n → (i : ℕ) → get_or (totals ws n) i 0 ≡ lo ws n i + get_or (ahead_after full ws n u (n - u)) i 0
  window_totals h i = let e : u + (n - u) ≡ n = omega arith in
      ahead_end ws some n i ∙ ap (λ (a : ℕ). lo ws n i + a) (sym (rw e at (window_ahead (n - u) (omega arith) i)))
