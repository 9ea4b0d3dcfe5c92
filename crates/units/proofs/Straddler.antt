-- Where unit s + 1 goes to a straddler, its taker is the smallest (due, place) among the places not ahead with lo x W < (s + 1) x w:
-- each of those holds its full units exactly, so that its test and its due number are the rule's own. Assumes nothing.
use mathlib.Core.Path.{◌≡◌, refl, sym}
use mathlib.Core.Bool.{Bool, true, false, true≢false, cond}
use mathlib.Core.List.{List}
use Prim.Native.Nat.{ℕ, suc, ◌+◌, ◌*◌, ◌≤◌, ◌<◌}
use native.Mathlib.Nat.{le_antisymm, mul-le-mul_right}
use native.Mathlib.Omega.{arith}
use lib.Dec.{eqb}
use lib.ListN.{length, get_or}
use borrow.Author.Tests.{eqb-true, eq-eqb, lt-ltb}
use Rattle.units.specs.Rule.{sum_of, may_take, place, may_at, totals}
use Rattle.units.specs.Wording.{Takes}
use Rattle.units.specs.Window.{lo, full_by, ahead_at, ahead_by, may_straddle, due_straddle, straddler}
use Rattle.units.proofs.Best.{Chosen, best_of_lem, best_one}
use Rattle.units.proofs.Due.{may_below}
use Rattle.units.proofs.Step.{others_full, step_straddles}

-- a test of two parts passes where both do
both : (x : ℕ) (m : Bool) → x ≡ 0 → m ≡ true → cond (eqb x 0) m false ≡ true
both x m e f = rw (eq-eqb x 0 e) f

both_of : (x : ℕ) (m : Bool) → cond (eqb x 0) m false ≡ true → (x ≡ 0) × (m ≡ true)
both_of x m = go (eqb x 0) refl
  where
    go : (b : Bool) → eqb x 0 ≡ b → cond b m false ≡ true → (x ≡ 0) × (m ≡ true)
    go true e f = (eqb-true x 0 e, f)
    go false e f = absurd (true≢false (sym f))

-- who may take the unit with more may with fewer
may_fewer : (W t w a b : ℕ) → a ≤ b → may_take W t w b ≡ true → may_take W t w a ≡ true
unfolding may_take
may_fewer W t w a b h m = lt-ltb (a * W) (t * w) (omega (arith, mul-le-mul_right W h, may_below W t w b m))

-- whom the scan finds is a place, and not ahead
pub straddler_free : (ws : List ℕ) (n : ℕ) (ahead : List ℕ) (t p : ℕ) → straddler ws n ahead t ≡ place p
    → (p < length ws) × (get_or ahead p 0 ≡ 0)
unfolding straddler
straddler_free ws n ahead t p e =
    let c : Chosen (may_straddle ws n ahead t) (due_straddle ws n) (length ws) p =
    rw e at (best_of_lem (may_straddle ws n ahead t) (due_straddle ws n) (length ws)) in
    (c.partner, (both_of (get_or ahead p 0) (may_take (sum_of ws) t (get_or ws p 0) (lo ws n p)) c.eligible).0)

module _ (ws : List ℕ) (some : 1 ≤ sum_of ws) (n s : ℕ) (inside : s < n) (ahead : List ℕ)
    (same : (i : ℕ) → i < length ws → get_or ahead i 0 ≡ ahead_at ws n s i) (p : ℕ) (c : Takes ws (totals ws s) (suc s) p)
    (none : full_by ws n (suc s) + ahead_by ws n s ≡ s) where
  taker_holds : get_or (totals ws s) p 0 ≡ lo ws n p
  taker_holds = (step_straddles ws some n s p c inside).1 none

  -- who may take the unit as its straddler may take it, and holds its full units exactly
  module _ (q : ℕ) (l : q < length ws) (m : may_straddle ws n ahead (suc s) q ≡ true) where
    straddles : (get_or ahead q 0 ≡ 0) × (may_take (sum_of ws) (suc s) (get_or ws q 0) (lo ws n q) ≡ true)
    straddles = both_of (get_or ahead q 0) (may_take (sum_of ws) (suc s) (get_or ws q 0) (lo ws n q)) m

    may_too : may_at ws (totals ws s) (suc s) q ≡ true
    may_too = may_fewer (sum_of ws) (suc s) (get_or ws q 0) (get_or (totals ws s) q 0) (lo ws n q) (omega (arith, same q l, straddles.0)) straddles.1

    holds_too : get_or (totals ws s) q 0 ≡ lo ws n q
    holds_too =
        le_antisymm (omega (arith, same q l, straddles.0))
        (others_full ws some n s p c (omega (arith, taker_holds)) q l may_too)

  pub straddler_chosen : Chosen (may_straddle ws n ahead (suc s)) (due_straddle ws n) (length ws) p
  straddler_chosen = record {
    partner = c.partner;
    eligible = both (get_or ahead p 0) (may_take (sum_of ws) (suc s) (get_or ws p 0) (lo ws n p)) (omega (arith, same p c.partner, taker_holds))
        (rw taker_holds at c.may);
    smallest = λ q l m. rw (taker_holds, holds_too q l m) at (c.smallest q l (may_too q l m));
    lower = λ q l m e. c.lower q l (may_too q l m) (rw (taker_holds, holds_too q l m) e);
  }

  -- the scan over the straddlers finds the unit's taker
  pub straddler_takes : straddler ws n ahead (suc s) ≡ place p
  unfolding straddler
  straddler_takes =
      best_one (may_straddle ws n ahead (suc s)) (due_straddle ws n) (length ws) (straddler ws n ahead (suc s)) (place p)
      (best_of_lem (may_straddle ws n ahead (suc s)) (due_straddle ws n) (length ws)) straddler_chosen
