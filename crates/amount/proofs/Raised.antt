-- A raised coefficient stands for the exact one: it is the same up to twice L, and past that both are over L, beside any amount within L that they are
-- added to or compared with. Of two amounts at the greater of their scales one was there before, and is within L. Assumes nothing.
use mathlib.Core.Path.{◌≡◌, refl, sym, ◌∙◌, ap, ap₂}
use mathlib.Core.Bool.{Bool, true, false, cond}
use Prim.Native.Nat.{ℕ, zero, suc, ◌-◌, ◌*◌, ◌<◌, ◌≤◌, ◌^◌, max}
use native.Mathlib.Decide.{dec_lt, dec_le}
use native.Mathlib.Omega.{arith}
use borrow.Author.Tests.{lt-ltb, le-ltb}
use lib.IntN.{ℤ, pos, negsuc, +ℤ_comm, ◌+ℤ◌, ◌*ℤ◌}
use lib.Signed.{mag, lt_z}
use mir.Syntax.{w64}
use mir.Val.{SFits, to_z, of_z}
use mir.ValLaws.{to_z-of_z}
use Rattle.whole.specs.Whole.{negative, magnitude_of, signed_of, held_signed}
use Rattle.whole.proofs.Laws.{sign_and_magnitude, magnitude_signed, held_within, read_back}
use Rattle.amount.specs.Amounts.{largest, limited}
use Rattle.amount.specs.Raising.{far, nearest, nearer}
use Rattle.amount.specs.Sum.{compared}
use Rattle.amount.proofs.Scales.{product, magnitude_product, magnitude_sum, magnitude_term, fits}

pub nearest_most : (m : ℕ) → nearest m ≤ far
nearest_most m = go (dec_lt far m)
  where
    go : Dec (far < m) → nearest m ≤ far
    go (yes more) = rw (lt-ltb far m more) (omega arith)
    go (no f) = rw (le-ltb far m (omega arith)) (omega arith)

nearest_is : (m : ℕ) → m ≤ far → nearest m ≡ m
nearest_is m h = rw (le-ltb far m h)

nearest_far : (m : ℕ) → far < m → nearest m ≡ far
nearest_far m h = rw (lt-ltb far m h)

-- by a sign and a magnitude, also where the magnitude is 0
pub nearer_signed : (sign : Bool) (m : ℕ) → nearer (signed_of sign m) ≡ signed_of sign (nearest m)
unfolding nearer
nearer_signed false m = refl
nearer_signed true zero = refl
nearer_signed true (suc m) = refl

pub nearer_most : (z : ℤ) → magnitude_of (nearer z) ≤ far
unfolding nearer
nearer_most z = omega (arith, magnitude_signed (negative z) (nearest (magnitude_of z)), nearest_most (magnitude_of z))

-- the number itself up to far, and past it the one at far
pub nearer_is : (z : ℤ) → magnitude_of z ≤ far → nearer z ≡ z
unfolding nearer
nearer_is z h = ap (signed_of (negative z)) (nearest_is (magnitude_of z) h) ∙ sign_and_magnitude z

nearer_far : (z : ℤ) → far < magnitude_of z → magnitude_of (nearer z) ≡ far
unfolding nearer
nearer_far z h = magnitude_signed (negative z) (nearest (magnitude_of z)) ∙ nearest_far (magnitude_of z) h

-- a number t stands for z where row 13 is asked: it is z, or both are over L
pub data Stands (t z : ℤ) : Type 0 where
  same : t ≡ z → Stands t z
  over : largest < magnitude_of t → largest < magnitude_of z → Stands t z

pub stands_limited : {A : Type 0} (made : ℤ → A) (t z : ℤ) → Stands t z → limited t (made t) ≡ limited z (made z)
stands_limited made t z (same e) = ap (λ (x : ℤ). limited x (made x)) e
stands_limited made t z (over one two) = rw (lt-ltb largest (magnitude_of t) one, lt-ltb largest (magnitude_of z) two)

pub nearer_stands : (z : ℤ) → Stands (nearer z) z
nearer_stands z = go (dec_lt far (magnitude_of z))
  where
    go : Dec (far < magnitude_of z) → Stands (nearer z) z
    go (yes more) = over (omega (arith, nearer_far z more)) (omega arith)
    go (no f) = same (nearer_is z (omega arith))

-- where only one of two answers is raised
pub either_stands : (b : Bool) (z w : ℤ) → Stands (cond b (nearer z) w) (cond b z w)
either_stands true z w = nearer_stands z
either_stands false z w = same refl

-- beside a number within L
module _ (u v : ℤ) (small : magnitude_of v ≤ largest) where
  pub sum_stands : Stands (nearer u +ℤ v) (u +ℤ v)
  sum_stands = go (dec_lt far (magnitude_of u))
    where
      go : Dec (far < magnitude_of u) → Stands (nearer u +ℤ v) (u +ℤ v)
      go (yes more) = over (omega (arith, nearer_far u more, magnitude_term (nearer u) v)) (omega (arith, magnitude_term u v))
      go (no f) = same (ap (λ (x : ℤ). x +ℤ v) (nearer_is u (omega arith)))

-- numbers with one sign that are farther from 0 than v lie on the same side of it
module _ (v : ℤ) (small : magnitude_of v ≤ largest) where
  beyond : (sign : Bool) (m n : ℕ) → largest < m → largest < n
      → (lt_z (signed_of sign m) v ≡ lt_z (signed_of sign n) v) × (lt_z v (signed_of sign m) ≡ lt_z v (signed_of sign n))
  beyond sign m n one two = go sign m n v one two small
    where
      go : (sign : Bool) (m n : ℕ) (v : ℤ) → largest < m → largest < n → magnitude_of v ≤ largest
          → (lt_z (signed_of sign m) v ≡ lt_z (signed_of sign n) v) × (lt_z v (signed_of sign m) ≡ lt_z v (signed_of sign n))
      go false m n (pos b) one two l =
          (le-ltb m b (omega arith) ∙ sym (le-ltb n b (omega arith)), lt-ltb b m (omega arith) ∙ sym (lt-ltb b n (omega arith)))
      go false m n (negsuc b) one two l = (refl, refl)
      go true zero n v one two l = absurd (omega arith)
      go true (suc m) zero v one two l = absurd (omega arith)
      go true (suc m) (suc n) (pos b) one two l = (refl, refl)
      go true (suc m) (suc n) (negsuc b) one two l =
          (lt-ltb b m (omega arith) ∙ sym (lt-ltb b n (omega arith)), le-ltb m b (omega arith) ∙ sym (le-ltb n b (omega arith)))

  pub same_side : (u : ℤ) → (lt_z (nearer u) v ≡ lt_z u v) × (lt_z v (nearer u) ≡ lt_z v u)
  unfolding nearer
  same_side u = go (dec_lt far (magnitude_of u))
    where
      go : Dec (far < magnitude_of u) → (lt_z (nearer u) v ≡ lt_z u v) × (lt_z v (nearer u) ≡ lt_z v u)
      go (yes more) =
          let m = magnitude_of u in
          let sides = beyond (negative u) (nearest m) m (omega (arith, nearest_far m more)) (omega arith) in
          (sides.0 ∙ ap (λ (x : ℤ). lt_z x v) (sign_and_magnitude u), sides.1 ∙ ap (lt_z v) (sign_and_magnitude u))
      go (no f) = (ap (λ (x : ℤ). lt_z x v) (nearer_is u (omega arith)), ap (lt_z v) (nearer_is u (omega arith)))

-- of two numbers one is within L
pub data OneNear (u v : ℤ) : Type 0 where
  first : magnitude_of u ≤ largest → OneNear u v
  second : magnitude_of v ≤ largest → OneNear u v

pub one_near : (x y : ℤ) (s t : ℕ) → magnitude_of x ≤ largest → magnitude_of y ≤ largest
    → OneNear (x *ℤ pos (10 ^ (max s t - s))) (y *ℤ pos (10 ^ (max s t - t)))
one_near x y s t small also = go (dec_le s t)
  where
    stays : (z : ℤ) (k : ℕ) → k ≡ 0 → magnitude_of z ≤ largest → magnitude_of (z *ℤ pos (10 ^ k)) ≤ largest
    stays z k e h = rw e (omega (arith, magnitude_product z 1))

    go : Dec (s ≤ t) → OneNear (x *ℤ pos (10 ^ (max s t - s))) (y *ℤ pos (10 ^ (max s t - t)))
    go (yes less) = second (stays y (max s t - t) (omega arith) also)
    go (no f) = first (stays x (max s t - s) (omega arith) small)

pub both_stand : (u v : ℤ) → OneNear u v → Stands (nearer u +ℤ nearer v) (u +ℤ v)
both_stand u v (first h) =
    rw (nearer_is u (omega arith), +ℤ_comm u (nearer v), +ℤ_comm u v) (sum_stands v u h)
both_stand u v (second h) = rw (nearer_is v (omega arith)) (sum_stands u v h)

pub same_order : (u v : ℤ) → OneNear u v → compared (nearer u) (nearer v) ≡ compared u v
same_order u v (first h) = rw (nearer_is u (omega arith), (same_side u h v).0, (same_side u h v).1)
same_order u v (second h) = rw (nearer_is v (omega arith), (same_side v h u).0, (same_side v h u).1)

-- the machine holds two of them together
pub sum_fits : (u v : ℤ) → SFits w64 (nearer u +ℤ nearer v)
sum_fits u v = fits (nearer u +ℤ nearer v) (omega (arith, magnitude_sum (nearer u) (nearer v), nearer_most u, nearer_most v))

-- a raised coefficient r as the machine reads it back, from a coefficient and a scale that it read itself
pub read_raised : (z r : ℤ) (s g t : ℕ) → SFits w64 z → mag r < 2 ^ 63 → g ≡ t → r ≡ nearer (to_z w64 (of_z w64 z) *ℤ pos (10 ^ (g - s)))
    → to_z w64 (of_z w64 r) ≡ nearer (z *ℤ pos (10 ^ (t - s)))
read_raised z r s g t h ok scale e =
    read_back r ok ∙ e ∙ ap₂ (λ (x : ℤ) (u : ℕ). nearer (x *ℤ pos (10 ^ (u - s)))) (to_z-of_z w64 z h) scale

-- and as a program makes it, from a sign and a magnitude
pub held_raised : (z : ℤ) (f : ℕ) (sign : Bool) (m : ℕ) → sign ≡ negative z → m ≡ nearest (magnitude_of z * f) → held_signed sign m ≡ nearer (z *ℤ pos f)
held_raised z f sign m signs magnitudes =
    held_within sign m (omega (arith, magnitudes, nearest_most (magnitude_of z * f))) ∙ ap₂ signed_of signs magnitudes
    ∙ sym (ap nearer (product z f) ∙ nearer_signed (negative z) (magnitude_of z * f))
