-- A test that holds at one of the first so many places, as a loop looks for one. Assumes nothing.
use mathlib.Core.Path.{◌≡◌, refl, sym, ◌∙◌, ap}
use mathlib.Core.Bool.{Bool, true, false, ◌||◌}
use mathlib.Core.List.{List, [], ◌∷◌}
use lib.ListN.{length, get_or}
use Rattle.std.specs.List.{list_any}
use Prim.Native.Nat.{ℕ, zero, suc, ◌+◌, ◌<◌}
use native.Mathlib.Decide.{ℕ_discrete}
use native.Mathlib.Numerals.{add-one}
use native.Mathlib.Omega.{arith}
use Rattle.statement.specs.Writing.{any_of}

or_true : (b : Bool) → b || true ≡ true
or_true true = refl
or_true false = refl

pub or_left : (a b : Bool) → a || b ≡ false → a ≡ false
or_left true b e = e
or_left false b e = refl

pub or_right : (a b : Bool) → a || b ≡ false → b ≡ false
or_right true b e = let z : ◌≡◌ {A = ℕ} 0 1 = cc in absurd (omega arith)
or_right false b e = e

or_false : (b : Bool) → b || false ≡ b
or_false true = refl
or_false false = refl

or_or : (a b c : Bool) → (a || b) || c ≡ a || (b || c)
or_or true b c = refl
or_or false b c = refl

-- the first place by itself
any_front : (f : ℕ → Bool) (n : ℕ) → any_of f (suc n) ≡ f 0 || any_of (λ i. f (suc i)) n
unfolding any_of
any_front f zero = sym (or_false (f 0))
any_front f (suc n) = ap (λ (b : Bool). b || f (suc n)) (any_front f n) ∙ or_or (f 0) (any_of (λ i. f (suc i)) n) (f (suc n))

-- a test that holds at one of a list's places, as std looks for one
pub any_is : {X : Type 0} (test : X → Bool) (d : X) (xs : List X) → list_any test xs ≡ any_of (λ i. test (get_or xs i d)) (length xs)
unfolding any_of
any_is test d [] = refl
any_is test d (x ∷ xs) =
    ap (λ (b : Bool). test x || b) (any_is test d xs) ∙ sym (any_front (λ i. test (get_or (x ∷ xs) i d)) (length xs))

module _ (f : ℕ → Bool) where
  pub none_yet : any_of f 0 ≡ false
  unfolding any_of
  none_yet = refl

  -- as a program counts
  pub still_none : (n : ℕ) → any_of f n ≡ false → f n ≡ false → any_of f (n + 1) ≡ false
  unfolding any_of
  still_none n none here = rw (add-one, none, here)

  pub found : (n i : ℕ) → i < n → f i ≡ true → any_of f n ≡ true
  unfolding any_of
  found zero i h e = absurd (omega arith)
  found (suc n) i h e = go (ℕ_discrete i n) (found n i)
    where
      go : Dec (i ≡ n) → (i < n → f i ≡ true → any_of f n ≡ true) → any_of f n || f n ≡ true
      go (yes same) earlier = rw (sym (ap f same) ∙ e) (or_true (any_of f n))
      go (no other) earlier = rw (earlier (omega arith) e)

  pub each_not : (n : ℕ) → any_of f n ≡ false → (i : ℕ) → i < n → f i ≡ false
  unfolding any_of
  each_not zero none i h = absurd (omega arith)
  each_not (suc n) none i h = go (ℕ_discrete i n) (each_not n (or_left (any_of f n) (f n) none) i)
    where
      go : Dec (i ≡ n) → (i < n → f i ≡ false) → f i ≡ false
      go (yes same) earlier = ap f same ∙ or_right (any_of f n) (f n) none
      go (no other) earlier = earlier (omega arith)

  pub none_of : (n : ℕ) → ((i : ℕ) → i < n → f i ≡ false) → any_of f n ≡ false
  unfolding any_of
  none_of zero each = refl
  none_of (suc n) each = rw (none_of n (λ i h. each i (omega arith)), each n (omega arith))
