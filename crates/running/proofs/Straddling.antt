-- The window's straddler is the place that is due first, where each place ahead is due late: of a place not ahead the tests are the
-- definition's. Assumes nothing.
use mathlib.Core.Path.{◌≡◌, refl, ap, ◌∙◌}
use mathlib.Core.Bool.{Bool, true, false, cond}
use mathlib.Core.List.{List}
use Prim.Native.Nat.{ℕ, ◌<◌}
use native.Mathlib.Decide.{ℕ_discrete}
use native.Mathlib.Omega.{arith}
use borrow.Author.Tests.{lt-ltb}
use lib.Dec.{eqb}
use lib.ListN.{length, get_or, set, replicate, length-set}
use lib.Seq.{get_or-set_same, get_or-set_other}
use Rattle.whole.proofs.Sums.{get_d_noughts}
use Rattle.units.specs.Rule.{due}
use Rattle.units.specs.Window.{may_straddle, due_straddle, straddler}
use Rattle.units.proofs.Loops.{scan_same}
use Rattle.running.specs.Limits.{partners}
use Rattle.running.specs.Taking.{late, dues_by, may_now, first_due}
use Rattle.running.specs.declared.full.Split.{Split}
use Rattle.running.proofs.Fitting.{small, due_early, dues_are}

-- the due numbers of the places not ahead, and late ones of those ahead
pub record Marked (ws : List ℕ) (sum : ℕ) (full ahead dues : List ℕ) : Type 0 where
  pub sixteen : length dues ≡ partners
  pub each : (i : ℕ) → i < partners → get_or dues i 0 ≡ cond (eqb (get_or ahead i 0) 0) (due sum (get_or ws i 0) (get_or full i 0)) late

module _ (s : Split) where
  early : (i : ℕ) → i < partners → due s.sum (get_or s.weights i 0) (get_or s.full i 0) < late
  early i b = let k = small s in due_early s.sum (get_or s.weights i 0) (get_or s.full i 0) k.most (k.weigh i b) (k.units i b)

  -- nobody is ahead
  pub marked_none : (dues : List ℕ) → length dues ≡ partners → dues ≡ dues_by s.weights s.sum s.full → Marked s.weights s.sum s.full (replicate partners 0) dues
  marked_none dues sixteen e = record {
    sixteen = sixteen;
    each = λ i b. rw (get_d_noughts partners i) (ap (λ (l : List ℕ). get_or l i 0) e ∙ dues_are s.weights s.sum s.full (small s) i b);
  }

  -- place p is
  pub marked_one : (ahead dues : List ℕ) (p : ℕ) → length ahead ≡ partners → p < partners → Marked s.weights s.sum s.full ahead dues
      → Marked s.weights s.sum s.full (set ahead p 1) (set dues p late)
  marked_one ahead dues p here inside m = record { sixteen = length-set dues p late ∙ m.sixteen; each = λ i b. go i b (ℕ_discrete i p) }
    where
      go : (i : ℕ) → i < partners → Dec (i ≡ p)
          → get_or (set dues p late) i 0 ≡ cond (eqb (get_or (set ahead p 1) i 0) 0) (due s.sum (get_or s.weights i 0) (get_or s.full i 0)) late
      go i b (yes e) = rw (e, get_or-set_same ahead p 1 0 (omega arith)) (get_or-set_same dues p late 0 (omega (arith, m.sixteen)))
      go i b (no e) = rw (get_or-set_other ahead p i 1 0 e) (get_or-set_other dues p i late 0 e ∙ m.each i b)

  pub straddler_is : (dues ahead : List ℕ) (t : ℕ) → Marked s.weights s.sum s.full ahead dues → first_due s.weights s.sum s.full dues t ≡ straddler s.weights s.n ahead t
  unfolding first_due straddler
  straddler_is dues ahead t m =
      rw s.long
      (scan_same (may_straddle s.weights s.n ahead t) (due_straddle s.weights s.n) (may_now s.weights s.sum s.full dues t) (λ i. get_or dues i 0) partners
      (λ i b. same i b (eqb (get_or ahead i 0) 0) refl)
      (λ i b may. owed i b (eqb (get_or ahead i 0) 0) refl may))
    where
      same : (i : ℕ) → i < partners → (x : Bool) → eqb (get_or ahead i 0) 0 ≡ x → may_now s.weights s.sum s.full dues t i ≡ may_straddle s.weights s.n ahead t i
      same i b true e =
          rw (m.each i b, e, lt-ltb (due s.sum (get_or s.weights i 0) (get_or s.full i 0)) late (early i b), s.shares i b, s.same)
      same i b false e = rw (m.each i b, e)

      owed : (i : ℕ) → i < partners → (x : Bool) → eqb (get_or ahead i 0) 0 ≡ x → may_straddle s.weights s.n ahead t i ≡ true → get_or dues i 0 ≡ due_straddle s.weights s.n i
      owed i b true e may = m.each i b ∙ rw (e, s.shares i b, s.same)
      owed i b false e may = let f = rw e at may in let z : ◌≡◌ {A = ℕ} 0 1 = cc in absurd (omega arith)
