-- The places of a list: a place is at most the sum, the sum of the places from one on, the one list less the other, and a list of noughts
-- filled from its first place on. Assumes nothing.
use mathlib.Core.Path.{◌≡◌, refl, sym, ap, ◌∙◌}
use mathlib.Core.List.{List, [], ◌∷◌}
use Prim.Native.Nat.{ℕ, zero, suc, ◌+◌, ◌-◌, ◌≤◌, ◌<◌, zero-le}
use native.Mathlib.Numerals.{add-one}
use native.Mathlib.Omega.{arith}
use lib.ListN.{length, get_or, set, drop, drop_of_length-le}
use lib.Seq.{drop-cons}
use Rattle.whole.specs.Sums.{sum_of}
use Rattle.whole.specs.Lists.{filled}
use Rattle.whole.proofs.Lists.{fill_more, filled_behind, filled_inside, filled_all}
use Rattle.running.specs.Totals.{less_of}

-- a list filled from its first place on: the loop's next store, what a place holds, and the whole list
module _ (f : ℕ → ℕ) (l : List ℕ) where
  pub fill_next : (held : List ℕ) (i v : ℕ) → held ≡ filled 0 f i l → v ≡ f i → set held i v ≡ filled 0 f (i + 1) l
  fill_next held i v e here = fill_more 0 f l held i i v e (omega arith) here

  pub filled_place : (n i : ℕ) → n ≤ length l → i < n → get_or (filled 0 f n l) i 0 ≡ f i
  filled_place n i h b = let e : 0 + i ≡ i = omega arith in rw e at (filled_inside 0 f l 0 n i b (omega arith))

  pub filled_whole : (n : ℕ) (r : List ℕ) → n ≡ length l → length r ≡ length l → ((k : ℕ) → k < length l → f k ≡ get_or r k 0) → filled 0 f n l ≡ r
  filled_whole n r e long each = rw e (filled_all f l 0 r long each)

-- a place of a list is at most the list's sum
pub place_within : (l : List ℕ) (i : ℕ) → get_or l i 0 ≤ sum_of l
unfolding sum_of
place_within [] i = zero-le
place_within (x ∷ l) zero = omega arith
place_within (x ∷ l) (suc i) = omega (arith, place_within l i)

-- the sum from a place on is its weight, and the sum from the next place on
pub sum_next : (l : List ℕ) (i : ℕ) → i < length l → sum_of (drop i l) ≡ get_or l i 0 + sum_of (drop (i + 1) l)
unfolding sum_of
sum_next l i h = rw (add-one, drop-cons l i 0)

-- nothing stands past the end
pub sum_past : (l : List ℕ) (i : ℕ) → length l ≤ i → sum_of (drop i l) ≡ 0
unfolding sum_of
sum_past l i h = rw (drop_of_length-le l {i = i} h)

-- the one list less the other
pub length_less : (l r : List ℕ) → length (less_of l r) ≡ length l
unfolding less_of
length_less [] r = refl
length_less (x ∷ l) [] = refl
length_less (x ∷ l) (y ∷ r) = ap suc (length_less l r)

pub less_place : (l r : List ℕ) (i : ℕ) → get_or (less_of l r) i 0 ≡ get_or l i 0 - get_or r i 0
unfolding less_of
less_place [] r i = omega arith
less_place (x ∷ l) [] i = omega arith
less_place (x ∷ l) (y ∷ r) zero = refl
less_place (x ∷ l) (y ∷ r) (suc i) = less_place l r i

-- a loop that takes one from the other place by place: what it reads, its next store, and the whole list
module _ (high low rest : List ℕ) (i : ℕ) (e : rest ≡ filled 0 (λ k. get_or high k 0 - get_or low k 0) i high) where
  pub less_still : get_or rest i 0 ≡ get_or high i 0
  less_still = ap (λ (l : List ℕ). get_or l i 0) e ∙ filled_behind 0 (λ k. get_or high k 0 - get_or low k 0) high 0 i i (omega arith)

  pub less_next : set rest i (get_or rest i 0 - get_or low i 0) ≡ filled 0 (λ k. get_or high k 0 - get_or low k 0) (i + 1) high
  less_next = fill_next (λ k. get_or high k 0 - get_or low k 0) high rest i _ e (ap (λ (x : ℕ). x - get_or low i 0) less_still)

  pub less_all : i ≡ length high → rest ≡ less_of high low
  less_all end =
      e ∙ filled_whole (λ k. get_or high k 0 - get_or low k 0) high i (less_of high low) end (length_less high low) (λ k b. sym (less_place high low k))

pub less_sum : (xs ys : List ℕ) → ((i : ℕ) → get_or ys i 0 ≤ get_or xs i 0) → sum_of (less_of xs ys) + sum_of ys ≡ sum_of xs
unfolding less_of sum_of
less_sum [] [] h = refl
less_sum [] (y ∷ ys) h = omega (arith, h 0, less_sum [] ys (λ i. h (suc i)))
less_sum (x ∷ xs) [] h = omega arith
less_sum (x ∷ xs) (y ∷ ys) h = omega (arith, h 0, less_sum xs ys (λ i. h (suc i)))
