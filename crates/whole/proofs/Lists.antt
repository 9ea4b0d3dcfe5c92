-- A list that is filled place by place keeps its length; the places filled hold what they are filled with, and the others what they held.
-- A loop that fills one starts with `fill_none`, goes on with `fill_more` and ends with `filled_is`, `filled_all` or `copy_all`. Assumes nothing.
use mathlib.Core.Path.{◌≡◌, refl, sym, ◌∙◌, ap}
use mathlib.Core.List.{List}
use Prim.Native.Nat.{ℕ, zero, suc, ◌+◌, ◌-◌, ◌≤◌, ◌<◌}
use native.Mathlib.Decide.{ℕ_discrete, dec_lt}
use native.Mathlib.Numerals.{add-one}
use native.Mathlib.Omega.{arith}
use lib.ListN.{length, get_or, set, length-set}
use lib.Seq.{ext_get_or, get_or-set_same, get_or-set_other}
use Rattle.whole.specs.Lists.{filled}

module _ {A : Type 0} (from : ℕ) (f : ℕ → A) (xs : List A) where
  pub length_filled : (n : ℕ) → length (filled from f n xs) ≡ length xs
  unfolding filled
  length_filled zero = refl
  length_filled (suc n) = length-set (filled from f n xs) (from + n) (f n) ∙ length_filled n

  -- before the loop
  pub fill_none : xs ≡ filled from f 0 xs
  unfolding filled
  fill_none = refl

  -- the loop's next store
  pub fill_more : (held : List A) (n i : ℕ) (v : A) → held ≡ filled from f n xs → i ≡ from + n → v ≡ f n → set held i v ≡ filled from f (n + 1) xs
  unfolding filled
  fill_more held n i v e here is = rw (add-one, e, here, is)

  -- the places in front and behind stand as they did
  pub filled_before : (d : A) (n i : ℕ) → i < from → get_or (filled from f n xs) i d ≡ get_or xs i d
  unfolding filled
  filled_before d zero i h = refl
  filled_before d (suc n) i h = get_or-set_other (filled from f n xs) (from + n) i (f n) d (λ e. omega arith) ∙ filled_before d n i h

  pub filled_behind : (d : A) (n i : ℕ) → from + n ≤ i → get_or (filled from f n xs) i d ≡ get_or xs i d
  unfolding filled
  filled_behind d zero i h = refl
  filled_behind d (suc n) i h =
      get_or-set_other (filled from f n xs) (from + n) i (f n) d (λ e. omega arith) ∙ filled_behind d n i (omega arith)

  -- the places between hold what they are filled with
  pub filled_inside : (d : A) (n k : ℕ) → k < n → from + k < length xs → get_or (filled from f n xs) (from + k) d ≡ f k
  unfolding filled
  filled_inside d zero k h room = absurd (omega arith)
  filled_inside d (suc n) k h room = go (ℕ_discrete k n) (filled_inside d n k)
    where
      go
          : Dec (k ≡ n) → (k < n → from + k < length xs → get_or (filled from f n xs) (from + k) d ≡ f k)
          → get_or (set (filled from f n xs) (from + n) (f n)) (from + k) d ≡ f k
      go (yes e) earlier = rw e (get_or-set_same (filled from f n xs) (from + n) (f n) d (omega (arith, length_filled n)))
      go (no e) earlier = get_or-set_other (filled from f n xs) (from + n) (from + k) (f n) d (λ same. e (omega arith)) ∙ earlier (omega arith) room

  -- a list of the same length with f at the places between, and what stood at the others
  pub filled_is : (d : A) (n : ℕ) (r : List A) → length r ≡ length xs
      → ((i : ℕ) → i < from → i < length xs → get_or xs i d ≡ get_or r i d)
      → ((k : ℕ) → k < n → from + k < length xs → f k ≡ get_or r (from + k) d)
      → ((i : ℕ) → from + n ≤ i → i < length xs → get_or xs i d ≡ get_or r i d) → filled from f n xs ≡ r
  filled_is d n r long front between back =
      ext_get_or d (filled from f n xs) r (length_filled n ∙ sym long) (λ i below. go i (rw length_filled at below) (dec_lt i from) (dec_lt i (from + n)))
    where
      go : (i : ℕ) → i < length xs → Dec (i < from) → Dec (i < from + n) → get_or (filled from f n xs) i d ≡ get_or r i d
      go i below (yes b) either = filled_before d n i b ∙ front i b below
      go i below (no b) (yes c) =
          let e : i ≡ from + (i - from) = omega arith in
          rw e (filled_inside d n (i - from) (omega arith) (omega arith) ∙ between (i - from) (omega arith) (omega arith))
      go i below (no b) (no c) = filled_behind d n i (omega arith) ∙ back i (omega arith) below

-- f at every place
pub filled_all : {A : Type 0} (f : ℕ → A) (xs : List A) (d : A) (r : List A) → length r ≡ length xs
    → ((k : ℕ) → k < length xs → f k ≡ get_or r k d) → filled 0 f (length xs) xs ≡ r
filled_all f xs d r long each =
    filled_is 0 f xs d (length xs) r long (λ i b c. absurd (omega arith)) (λ k b c. rw (zero_plus k) (each k b)) (λ i b c. absurd (omega arith))
  where
    zero_plus : (k : ℕ) → 0 + k ≡ k
    zero_plus k = omega arith

-- a list filled with the numbers of another, so far and to its end
module _ {A : Type 0} (d : A) (l xs held : List A) (n : ℕ) (so_far : held ≡ filled 0 (λ k. get_or l k d) n xs) where
  pub copy_all : length l ≡ length xs → n ≡ length xs → held ≡ l
  copy_all same e =
      so_far ∙ ap (λ (m : ℕ). filled 0 (λ k. get_or l k d) m xs) e ∙ filled_all (λ k. get_or l k d) xs d l same (λ k below. refl)
