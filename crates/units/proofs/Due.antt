-- What the rule's two numbers say without a quotient: a partner may take the unit where a x W < t x w, and is due by e where
-- (a + 1) x W ≤ e x w. Assumes nothing.
use mathlib.Core.Path.{◌≡◌, refl}
use mathlib.Core.Bool.{Bool, true, false}
use Prim.Native.Nat.{ℕ, suc, ◌+◌, ◌-◌, ◌*◌, ◌≤◌, ◌<◌}
use native.Mathlib.Nat.{lt_of_not-le, div-lt_iff_lt-mul, lt_of_mul-lt-mul_left}
use native.Mathlib.Omega.{arith}
use lib.Dec.{ltb}
use borrow.Author.Tests.{ltb-true, ltb-false, lt-ltb, le-ltb}
use Rattle.units.specs.Rule.{may_take, due}

-- a product above another number has no factor 0
pub weight : (x t w : ℕ) → x < t * w → 1 ≤ w
weight x t w h = lt_of_mul-lt-mul_left t (omega arith)

-- a test is the same where each way it goes carries over
pub ltb_same : (a b c d : ℕ) → (a < b → c < d) → (b ≤ a → d ≤ c) → ltb c d ≡ ltb a b
ltb_same a b c d lt le = go (ltb a b) refl
  where
    go : (s : Bool) → ltb a b ≡ s → ltb c d ≡ s
    go true e = lt-ltb c d (lt (ltb-true a b e))
    go false e = le-ltb c d (le (ltb-false a b e))

module _ (W t w a : ℕ) where
  pub may_below : may_take W t w a ≡ true → a * W < t * w
  unfolding may_take
  may_below = ltb-true (a * W) (t * w)

  pub may_not : may_take W t w a ≡ false → t * w ≤ a * W
  unfolding may_take
  may_not = ltb-false (a * W) (t * w)

  -- who may take a unit has a weight
  pub may_weight : may_take W t w a ≡ true → 1 ≤ w
  may_weight m = weight (a * W) t w (may_below m)

module _ (W w a e : ℕ) (some : 1 ≤ w) where
  pub due_by_lem : due W w a ≤ e → (a + 1) * W ≤ e * w
  unfolding due
  due_by_lem h = omega (arith, (div-lt_iff_lt-mul {x = (a + 1) * W + (w - 1)} {y = suc e} some).0 (omega arith))

  pub by_due : (a + 1) * W ≤ e * w → due W w a ≤ e
  unfolding due
  by_due h = omega (arith, (div-lt_iff_lt-mul {x = (a + 1) * W + (w - 1)} {y = suc e} some).1 (omega arith))

  pub not_due : e < due W w a → e * w < (a + 1) * W
  not_due h = lt_of_not-le (λ b. omega (arith, by_due b))
