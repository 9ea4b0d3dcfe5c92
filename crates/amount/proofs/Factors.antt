-- A whole number times a natural factor: factors multiply, a factor goes over a sum, and a factor above 0 changes no order.
-- By the signs, and for the sum by induction on the factor. Assumes nothing.
use mathlib.Core.Path.{◌≡◌, refl, sym, ◌∙◌, ap, ap₂}
use mathlib.Core.Bool.{true, false}
use Prim.Native.Nat.{ℕ, zero, suc, ◌+◌, ◌*◌, ◌<◌, ◌^◌}
use native.Mathlib.Nat.{mul_assoc, mul-one, mul-pos, zero-mul, mul-le-mul_right, mul-lt-mul_of_pos_right}
use native.Mathlib.Decide.{dec_lt}
use native.Mathlib.Omega.{arith}
use borrow.Author.Tests.{lt-ltb, le-ltb}
use lib.Dec.{ltb, leb-suc-suc}
use lib.IntN.{ℤ, pos, negsuc, neg_ℤ, zero-*ℤ, suc_ℤ-*ℤ, *ℤ_comm, +ℤ_assoc, +ℤ_comm, ◌+ℤ◌, ◌*ℤ◌}
use lib.Pow.{pow-add}
use lib.Signed.{lt_z}

opposite_times : (m f : ℕ) → neg_ℤ (pos m) *ℤ pos f ≡ neg_ℤ (pos (m * f))
opposite_times zero f = rw zero-mul
opposite_times (suc m) f = refl

pub times_times : (z : ℤ) (f h : ℕ) → z *ℤ pos f *ℤ pos h ≡ z *ℤ pos (f * h)
times_times (pos n) f h = ap pos (mul_assoc n f h)
times_times (negsuc n) f h = opposite_times (suc n * f) h ∙ ap (λ (m : ℕ). neg_ℤ (pos m)) (mul_assoc (suc n) f h)

pub times_one : (z : ℤ) → z *ℤ pos 1 ≡ z
times_one (pos n) = ap pos (mul-one n)
times_one (negsuc n) = ap (λ (m : ℕ). neg_ℤ (pos m)) (mul-one (suc n))

-- powers of ten add their exponents
pub times_tens : (z : ℤ) (i j k : ℕ) → i + j ≡ k → z *ℤ pos (10 ^ i) *ℤ pos (10 ^ j) ≡ z *ℤ pos (10 ^ k)
times_tens z i j k e = times_times z (10 ^ i) (10 ^ j) ∙ ap (λ (f : ℕ). z *ℤ pos f) (sym (pow-add 10 i j) ∙ ap (λ (n : ℕ). 10 ^ n) e)

-- (u + v) + (x + y) is (u + x) + (v + y)
exchange : (u v x y : ℤ) → (u +ℤ v) +ℤ (x +ℤ y) ≡ (u +ℤ x) +ℤ (v +ℤ y)
exchange u v x y =
    +ℤ_assoc u v (x +ℤ y)
    ∙ ap (λ (w : ℤ). u +ℤ w) (sym (+ℤ_assoc v x y) ∙ ap (λ (w : ℤ). w +ℤ y) (+ℤ_comm v x) ∙ +ℤ_assoc x v y)
    ∙ sym (+ℤ_assoc u x (v +ℤ y))

over_sum : (f : ℕ) (x y : ℤ) → pos f *ℤ (x +ℤ y) ≡ pos f *ℤ x +ℤ pos f *ℤ y
over_sum zero x y = zero-*ℤ (x +ℤ y) ∙ sym (ap₂ (λ (u v : ℤ). u +ℤ v) (zero-*ℤ x) (zero-*ℤ y))
over_sum (suc f) x y =
    suc_ℤ-*ℤ (pos f) (x +ℤ y)
    ∙ ap (λ (w : ℤ). w +ℤ (x +ℤ y)) (over_sum f x y)
    ∙ exchange (pos f *ℤ x) (pos f *ℤ y) x y
    ∙ sym (ap₂ (λ (u v : ℤ). u +ℤ v) (suc_ℤ-*ℤ (pos f) x) (suc_ℤ-*ℤ (pos f) y))

pub sum_times : (x y : ℤ) (f : ℕ) → (x +ℤ y) *ℤ pos f ≡ x *ℤ pos f +ℤ y *ℤ pos f
sum_times x y f =
    *ℤ_comm (x +ℤ y) (pos f) ∙ over_sum f x y ∙ ap₂ (λ (u v : ℤ). u +ℤ v) (*ℤ_comm (pos f) x) (*ℤ_comm (pos f) y)

-- the order of numbers from 0 on, across 0 and below 0
from_zero : (a b f : ℕ) → 0 < f → ltb (a * f) (b * f) ≡ ltb a b
from_zero a b f h = go (dec_lt a b)
  where
    go : Dec (a < b) → ltb (a * f) (b * f) ≡ ltb a b
    go (yes less) = lt-ltb (a * f) (b * f) (mul-lt-mul_of_pos_right less h) ∙ sym (lt-ltb a b less)
    go (no not) = le-ltb (a * f) (b * f) (mul-le-mul_right f (omega arith)) ∙ sym (le-ltb a b (omega arith))

not_less : (m n : ℕ) → lt_z (pos m) (neg_ℤ (pos n)) ≡ false
not_less m zero = le-ltb m 0 (omega arith)
not_less m (suc n) = refl

less : (m n : ℕ) → 0 < m → lt_z (neg_ℤ (pos m)) (pos n) ≡ true
less zero n h = absurd (omega arith)
less (suc m) n h = refl

turned : (m n : ℕ) → 0 < m → 0 < n → lt_z (neg_ℤ (pos m)) (neg_ℤ (pos n)) ≡ ltb n m
turned zero n h k = absurd (omega arith)
turned (suc m) zero h k = absurd (omega arith)
turned (suc m) (suc n) h k = sym (leb-suc-suc (suc n) m)

pub times_order : (x y : ℤ) (f : ℕ) → 0 < f → lt_z (x *ℤ pos f) (y *ℤ pos f) ≡ lt_z x y
times_order (pos a) (pos b) f h = from_zero a b f h
times_order (pos a) (negsuc b) f h = not_less (a * f) (suc b * f)
times_order (negsuc a) (pos b) f h = less (suc a * f) (b * f) (mul-pos (omega arith) h)
times_order (negsuc a) (negsuc b) f h =
    turned (suc a * f) (suc b * f) (mul-pos (omega arith) h) (mul-pos (omega arith) h) ∙ from_zero (suc b) (suc a) f h
    ∙ leb-suc-suc (suc b) a
