-- Lists of payouts and of weights: at each place `plus_of` adds, and so do the sums; noughts behind a list of weights change neither its sum
-- nor what stands past it. Each by induction on the list. Assumes nothing.
use mathlib.Core.Path.{◌≡◌, refl}
use mathlib.Core.List.{List, [], ◌∷◌, ◌++◌}
use Prim.Native.Nat.{ℕ, zero, suc, ◌+◌}
use native.Mathlib.Nat.{add-zero}
use native.Mathlib.Omega.{arith}
use lib.ListN.{length, get_or, drop, replicate}
use lib.Seq.{drop-append_seam}
use Rattle.whole.specs.Sums.{sum_of}
use Rattle.whole.proofs.Sums.{sum_noughts}
use Rattle.book.specs.History.{plus_of}

pub plus_place : (xs ys : List ℕ) (i : ℕ) → get_or (plus_of xs ys) i 0 ≡ get_or xs i 0 + get_or ys i 0
unfolding plus_of
plus_place [] ys i = omega arith
plus_place (x ∷ xs) [] i = omega arith
plus_place (x ∷ xs) (y ∷ ys) zero = refl
plus_place (x ∷ xs) (y ∷ ys) (suc i) = plus_place xs ys i

pub plus_sum : (xs ys : List ℕ) → sum_of (plus_of xs ys) ≡ sum_of xs + sum_of ys
unfolding plus_of sum_of
plus_sum [] ys = omega arith
plus_sum (x ∷ xs) [] = omega arith
plus_sum (x ∷ xs) (y ∷ ys) = omega (arith, plus_sum xs ys)

sum_append : (l r : List ℕ) → sum_of (l ++ r) ≡ sum_of l + sum_of r
unfolding sum_of
sum_append [] r = omega arith
sum_append (x ∷ l) r = omega (arith, sum_append l r)

-- noughts behind a list
module _ (l : List ℕ) (n : ℕ) where
  pub sum_padded : sum_of (l ++ replicate n 0) ≡ sum_of l
  sum_padded = rw (sum_append, sum_noughts) (add-zero (sum_of l))

  pub sum_padding : sum_of (drop (length l) (l ++ replicate n 0)) ≡ 0
  sum_padding = rw drop-append_seam (sum_noughts n)
