-- Tools over tests and numbers: two tests in one, a test at each number below a limit, a number past the keys of a match, and what
-- never falls from one number to the next. Assumes nothing.
use mathlib.Core.Path.{◌≡◌, refl}
use mathlib.Core.Bool.{Bool, true, false, ◌&&◌}
use Prim.Native.Nat.{ℕ, zero, suc, ◌+◌, ◌≤◌, ◌<◌}
use native.Mathlib.Decide.{ℕ_discrete}
use native.Mathlib.Omega.{arith}

pub both : (a b : Bool) → a && b ≡ true → (a ≡ true) × (b ≡ true)
both true b e = (refl, e)
both false b e = let z : ◌≡◌ {A = ℕ} 0 1 = cc in absurd (omega arith)

-- a test at each of the first n numbers, as one test that computes
abbrev pub each : (ℕ → Bool) → ℕ → Bool
each f zero = true
each f (suc n) = f n && each f n

pub each_at : (f : ℕ → Bool) (n : ℕ) → each f n ≡ true → (k : ℕ) → k < n → f k ≡ true
each_at f zero e k h = absurd (omega arith)
each_at f (suc n) e k h = at (ℕ_discrete k n) (λ l. each_at f n (both (f n) (each f n) e).1 k l)
  where
    at : Dec (k ≡ n) → (k < n → f k ≡ true) → f k ≡ true
    at (yes same) before = rw same (both (f n) (each f n) e).0
    at (no other) before = before (omega arith)

-- a number from k on that is none of the next n keys of a match is past them
abbrev pub NoneOf : (x k n : ℕ) → Type 0
NoneOf x k zero = Unit {0}
NoneOf x k (suc n) = NoneOf x k n × (x ≡ k + n → ⊥)

pub past : (x k n : ℕ) → k ≤ x → NoneOf x k n → k + n ≤ x
past x k zero least none = omega arith
past x k (suc n) least none = let before : k + n ≤ x = past x k n least none.0 in let other = none.1 in omega arith

-- what never falls in one step never falls
pub grows : (f : ℕ → ℕ) → ((n : ℕ) → f n ≤ f (suc n)) → (a b : ℕ) → a ≤ b → f a ≤ f b
grows f step a zero h = let same : a ≡ 0 = omega arith in rw same (omega arith)
grows f step a (suc b) h = at (ℕ_discrete a (suc b)) (grows f step a b)
  where
    at : Dec (a ≡ suc b) → (a ≤ b → f a ≤ f b) → f a ≤ f (suc b)
    at (yes e) before = rw e (omega arith)
    at (no g) before = omega (arith, before (omega arith), step b)
