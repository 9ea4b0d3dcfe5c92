-- An array made from a function of the place: where each call of it gives h of the place, so does each place of the array. By induction on the
-- places. Assumes nothing.
use Rattle.std.specs.Array.{IsFromFnResult, IsFromFnResultFrom}
use denote.Param.Members.{Mut, Called}
use mathlib.Core.Path.{◌≡◌, subst, ◌∙◌}
use mathlib.Core.List.{List}
use Prim.Native.Nat.{ℕ, zero, suc, ◌+◌, ◌<◌}
use native.Mathlib.Omega.{arith}
use lib.ListN.{get_or}

module _ {F B : Type 0} (g : Mut F (ℕ × Unit {0}) B) (f : F) (h : ℕ → B) (each : (i : ℕ) (y : B) (q : F) → Called g f (i, tt) y q → (q ≡ f) × (y ≡ h i)) where
  made_from : (ys : List B) (i n : ℕ) → IsFromFnResultFrom g f ys i n → (k : ℕ) → k < n → (d : B) → get_or ys (i + k) d ≡ h (i + k)
  made_from ys i zero made k below d = absurd (omega arith)
  made_from ys i (suc n) made zero below d =
      let here = each i made.1 made.0 made.3 in
      let e : i + 0 ≡ i = omega arith in rw e (made.2.1 d ∙ here.1)
  made_from ys i (suc n) made (suc k) below d =
      let here = each i made.1 made.0 made.3 in
      let e : i + suc k ≡ (i + 1) + k = omega arith in
      rw e (made_from ys (i + 1) n (subst (λ (q : F). IsFromFnResultFrom g q ys (i + 1) n) here.0 made.4) k (omega arith) d)

  pub made_at : (ys : List B) (n : ℕ) → IsFromFnResult g f ys n → (k : ℕ) → k < n → (d : B) → get_or ys k d ≡ h k
  made_at ys n made k below d = let e : 0 + k ≡ k = omega arith in rw e at (made_from ys 0 n made.each k below d)
