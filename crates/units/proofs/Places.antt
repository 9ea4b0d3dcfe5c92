-- The sum over the first places as the window's definitions have it: the same as `sum_to`, and what holds at each place of two sums
-- holds of both. Each by induction on the number of places. Assumes nothing.
use mathlib.Core.Path.{◌≡◌, refl}
use Prim.Native.Nat.{ℕ, zero, suc, ◌+◌, ◌*◌, ◌≤◌, ◌<◌}
use native.Mathlib.Nat.{not-suc-le-zero}
use native.Mathlib.Decide.{ℕ_discrete}
use native.Mathlib.Omega.{arith}
use Rattle.units.specs.Window.{places_sum}
use Rattle.whole.proofs.Sums.{sum_to}

module _ (f : ℕ → ℕ) where
  pub places_sum_lem : (n : ℕ) → places_sum f n ≡ sum_to f n
  unfolding places_sum sum_to
  places_sum_lem zero = refl
  places_sum_lem (suc n) = omega (arith, places_sum_lem n)

  pub places_mul : (c n : ℕ) → places_sum (λ i. f i * c) n ≡ places_sum f n * c
  unfolding places_sum
  places_mul c zero = omega arith
  places_mul c (suc n) = omega (arith, places_mul c n)

  -- nothing at any place is nothing in all
  pub places_none : (n : ℕ) → ((i : ℕ) → f i ≡ 0) → places_sum f n ≡ 0
  unfolding places_sum
  places_none zero h = refl
  places_none (suc n) h = omega (arith, places_none n h, h n)

module _ (f g : ℕ → ℕ) where
  pub places_plus : (n : ℕ) → places_sum (λ i. f i + g i) n ≡ places_sum f n + places_sum g n
  unfolding places_sum
  places_plus zero = omega arith
  places_plus (suc n) = omega (arith, places_plus n)

  pub places_same : (n : ℕ) → ((i : ℕ) → i < n → f i ≡ g i) → places_sum f n ≡ places_sum g n
  unfolding places_sum
  places_same zero h = refl
  places_same (suc n) h = omega (arith, places_same n (λ i l. h i (omega arith)), h n (omega arith))

  pub places_le : (n : ℕ) → ((i : ℕ) → i < n → f i ≤ g i) → places_sum f n ≤ places_sum g n
  unfolding places_sum
  places_le zero h = omega arith
  places_le (suc n) h = omega (arith, places_le n (λ i l. h i (omega arith)), h n (omega arith))

  -- and one place where f is below g
  pub places_lt : (p n : ℕ) → p < n → f p < g p → ((i : ℕ) → i < n → f i ≤ g i) → places_sum f n < places_sum g n
  unfolding places_sum
  places_lt p zero h less each = absurd (not-suc-le-zero h)
  places_lt p (suc n) h less each = go (ℕ_discrete n p) (places_lt p n)
    where
      go : Dec (n ≡ p) → (p < n → f p < g p → ((i : ℕ) → i < n → f i ≤ g i) → places_sum f n < places_sum g n)
          → places_sum f n + f n < places_sum g n + g n
      go (yes e) rest = let here : f n < g n = rw e less in omega (arith, places_le n (λ i l. each i (omega arith)))
      go (no e) rest = omega (arith, rest (omega arith) less (λ i l. each i (omega arith)), each n (omega arith))
