-- Two lists of numbers with one sum are equal where no exchange leads from one to the other: where no place has more in the first while
-- another has more in the second. For a list that has more at one place and nowhere less has the greater sum. Assumes nothing.
use mathlib.Core.Path.{◌≡◌, sym}
use mathlib.Core.Logic.{◌⊎◌, inl, inr, ⊎_elim}
use Prim.Native.Nat.{ℕ, zero, suc, ◌+◌, ◌≤◌, ◌<◌}
use native.Mathlib.Decide.{dec_lt, ℕ_discrete}
use native.Mathlib.Nat.{not-suc-le-zero}
use native.Mathlib.Omega.{arith}
use Rattle.whole.proofs.Sums.{sum_to, and_last}

-- f is less than g at one of the first n places, or at none
Less : (f g : ℕ → ℕ) → ℕ → Type 0
Less f g n = ((i : ℕ) × (i < n) × (f i < g i)) ⊎ ((i : ℕ) → i < n → g i ≤ f i)

module _ (f g : ℕ → ℕ) where
  find_less : (n : ℕ) → Less f g n
  unfolding Less
  find_less zero = inr (λ i l. absurd (not-suc-le-zero l))
  find_less (suc n) = go (find_less n) (dec_lt (f n) (g n))
    where
      go : Less f g n → Dec (f n < g n) → Less f g (suc n)
      go (inl x) d = inl (x.0, omega (arith, x.1), x.2)
      go (inr all) (yes less) = inl (n, omega arith, less)
      go (inr all) (no none) = inr (and_last (λ i. g i ≤ f i) n all (omega arith))

  sum_least : (n : ℕ) → ((i : ℕ) → i < n → g i ≤ f i) → sum_to g n ≤ sum_to f n
  unfolding sum_to
  sum_least zero all = omega arith
  sum_least (suc n) all = omega (arith, sum_least n (λ i l. all i (omega arith)), all n (omega arith))

  sum_more : (n p : ℕ) → p < n → g p < f p → ((i : ℕ) → i < n → g i ≤ f i) → sum_to g n < sum_to f n
  unfolding sum_to
  sum_more zero p l more all = absurd (not-suc-le-zero l)
  sum_more (suc n) p l more all = go (ℕ_discrete n p) (sum_more n p)
    where
      go : Dec (n ≡ p) → (p < n → g p < f p → ((i : ℕ) → i < n → g i ≤ f i) → sum_to g n < sum_to f n) → sum_to g n + g n < sum_to f n + f n
      go (yes e) rest = let here : g n < f n = rw e more in omega (arith, sum_least n (λ i l. all i (omega arith)))
      go (no e) rest = omega (arith, rest (omega arith) more (λ i l. all i (omega arith)), all n (omega arith))

  -- more at one place is less at another
  less_elsewhere : (n p : ℕ) → sum_to f n ≡ sum_to g n → p < n → g p < f p → (q : ℕ) × (q < n) × (f q < g q)
  unfolding Less
  less_elsewhere n p same l more = ⊎_elim (λ x. x) (λ all. absurd (omega (arith, sum_more n p l more all))) (find_less n)

-- no exchange leads from f to g
abbrev pub NoExchange : (f g : ℕ → ℕ) → ℕ → Type 0
NoExchange f g n = (i j : ℕ) → i < n → j < n → g i < f i → f j < g j → ⊥

pub same_places : (f g : ℕ → ℕ) (n : ℕ) → sum_to f n ≡ sum_to g n → NoExchange f g n → (i : ℕ) → i < n → f i ≡ g i
same_places f g n same none i l = go (dec_lt (g i) (f i)) (dec_lt (f i) (g i))
  where
    go : Dec (g i < f i) → Dec (f i < g i) → f i ≡ g i
    go (yes more) _ = let x = less_elsewhere f g n i same l more in absurd (none i x.0 l x.1 more x.2)
    go (no _) (yes less) = let x = less_elsewhere g f n i (sym same) l less in absurd (none x.0 i x.1 l x.2 less)
    go (no a) (no b) = omega arith
