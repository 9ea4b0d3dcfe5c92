-- Sums over places: what holds at each place holds of the sums, and one place raised by one raises the sum by one.
-- Each by induction on the number of places. Assumes nothing.
use mathlib.Core.Path.{◌≡◌, refl, sym, ap, ◌∙◌}
use mathlib.Core.Logic.{◌≢◌}
use mathlib.Core.List.{List, [], ◌∷◌, map}
use Prim.Native.Nat.{ℕ, zero, suc, ◌+◌, ◌*◌, ◌≤◌, ◌<◌}
use native.Mathlib.Nat.{not-suc-le-zero, mul-zero, suc-ne-zero, suc_inj}
use native.Mathlib.Decide.{ℕ_discrete}
use native.Mathlib.Omega.{arith}
use lib.ListN.{length, get_or, set, replicate, length-set}
use lib.Seq.{get_or-set_same, get_or-set_other}
use Rattle.whole.specs.Sums.{sum_of}

-- what holds of the places below n, and of n, holds below n + 1
pub and_last : (P : ℕ → Type 0) (n : ℕ) → ((i : ℕ) → i < n → P i) → P n → (i : ℕ) → i < suc n → P i
and_last P n below last i h = go (ℕ_discrete n i)
  where
    go : Dec (n ≡ i) → P i
    go (yes e) = rw e at last
    go (no e) = below i (omega arith)

-- the sum of f over the first n places
unfoldable pub sum_to : (f : ℕ → ℕ) → ℕ → ℕ
sum_to f zero = 0
sum_to f (suc n) = sum_to f n + f n

sum_first : (f : ℕ → ℕ) (n : ℕ) → sum_to f (suc n) ≡ f 0 + sum_to (λ i. f (suc i)) n
unfolding sum_to
sum_first f zero = omega arith
sum_first f (suc n) = omega (arith, sum_first f n)

-- a list's sum, by its places
pub sum_list : (l : List ℕ) (n : ℕ) → length l ≡ n → sum_to (λ i. get_or l i 0) n ≡ sum_of l
unfolding sum_of sum_to
sum_list [] zero e = refl
sum_list [] (suc n) e = absurd (suc-ne-zero n (sym e))
sum_list (x ∷ l) zero e = absurd (suc-ne-zero (length l) e)
sum_list (x ∷ l) (suc n) e = sum_first (λ i. get_or (x ∷ l) i 0) n ∙ ap (λ (s : ℕ). x + s) (sum_list l n (suc_inj e))

-- an order at each place, with a factor on either side, is an order of the sums
pub sum_le : (f g : ℕ → ℕ) (c d n : ℕ) → ((i : ℕ) → i < n → f i * c ≤ g i * d) → sum_to f n * c ≤ sum_to g n * d
unfolding sum_to
sum_le f g c d zero h = omega arith
sum_le f g c d (suc n) h = omega (arith, sum_le f g c d n (λ i l. h i (omega arith)), h n (omega arith))

pub sum_same : (f g : ℕ → ℕ) (n : ℕ) → ((i : ℕ) → i < n → f i ≡ g i) → sum_to f n ≡ sum_to g n
unfolding sum_to
sum_same f g zero h = refl
sum_same f g (suc n) h = omega (arith, sum_same f g n (λ i l. h i (omega arith)), h n (omega arith))

pub sum_term : (f : ℕ → ℕ) (n i : ℕ) → i < n → f i ≤ sum_to f n
unfolding sum_to
sum_term f zero i h = absurd (not-suc-le-zero h)
sum_term f (suc n) i h = and_last (λ j. f j ≤ sum_to f n + f n) n (λ j l. omega (arith, sum_term f n j l)) (omega arith) i h

-- a list's place is at most its sum
pub place_within : (l : List ℕ) (i : ℕ) → get_or l i 0 ≤ sum_of l
unfolding sum_of
place_within [] i = omega arith
place_within (x ∷ l) zero = omega arith
place_within (x ∷ l) (suc i) = omega (arith, place_within l i)

-- f is one above g at place p, and the same elsewhere
pub sum_raised : (f g : ℕ → ℕ) (p n : ℕ) → p < n → f p ≡ g p + 1 → ((i : ℕ) → i ≢ p → f i ≡ g i) → sum_to f n ≡ sum_to g n + 1
unfolding sum_to
sum_raised f g p zero h more same = absurd (not-suc-le-zero h)
sum_raised f g p (suc n) h more same = go (ℕ_discrete n p) (sum_raised f g p n)
  where
    go : Dec (n ≡ p) → (p < n → f p ≡ g p + 1 → ((i : ℕ) → i ≢ p → f i ≡ g i) → sum_to f n ≡ sum_to g n + 1)
        → sum_to f n + f n ≡ sum_to g n + g n + 1
    go (yes e) raised = rw e (omega (arith, sum_same f g p (λ i l. same i (omega arith))))
    go (no e) raised = omega (arith, raised (omega arith) more same, same n e)

-- a list's place p raised by one
pub sum_set : (l : List ℕ) (p : ℕ) → p < length l → sum_of (set l p (get_or l p 0 + 1)) ≡ sum_of l + 1
sum_set l p h =
    let more : ℕ = get_or l p 0 + 1 in
    sym (sum_list (set l p more) (length l) (length-set l p more))
    ∙ sum_raised _ (λ i. get_or l i 0) p (length l) h (get_or-set_same l p more 0 h) (λ i e. get_or-set_other l p i more 0 e)
    ∙ ap (λ (s : ℕ). s + 1) (sum_list l (length l) refl)

-- nothing stands at any place of a list of noughts
pub get_d_noughts : (n i : ℕ) → ◌≡◌ {A = ℕ} (get_or (replicate n 0) i 0) 0
get_d_noughts zero i = refl
get_d_noughts (suc n) zero = refl
get_d_noughts (suc n) (suc i) = get_d_noughts n i

pub sum_noughts : (n : ℕ) → sum_of (replicate n 0) ≡ 0
unfolding sum_of
sum_noughts zero = refl
sum_noughts (suc n) = omega (arith, sum_noughts n)

-- every weight times f
pub sum_map : (f : ℕ) (l : List ℕ) → sum_of (map (λ w. f * w) l) ≡ f * sum_of l
unfolding sum_of
sum_map f [] = omega arith
sum_map f (x ∷ l) = omega (arith, sum_map f l)

pub get_d_map_mul : (f : ℕ) (l : List ℕ) (i : ℕ) → get_or (map (λ w. f * w) l) i 0 ≡ f * get_or l i 0
get_d_map_mul f [] i = sym (mul-zero f)
get_d_map_mul f (x ∷ l) zero = refl
get_d_map_mul f (x ∷ l) (suc i) = get_d_map_mul f l i
