-- Settled totals: what their sums tell of each of them, how the sums grow from the last place down, and what running totals added to them give.
-- Each by induction on the list. Assumes nothing.
use Rattle.std.specs.List.{list_any}
use mathlib.Core.Path.{◌≡◌, refl, sym, ap, ◌∙◌}
use mathlib.Core.Bool.{Bool, true, false, cond, ◌||◌}
use mathlib.Core.List.{List, [], ◌∷◌}
use Prim.Native.Nat.{ℕ, zero, suc, ◌+◌, ◌*◌, ◌^◌, ◌≤◌, ◌<◌}
use native.Mathlib.Nat.{zero-add}
use native.Mathlib.Omega.{arith}
use borrow.Author.Tests.{lt-ltb, le-ltb, ltb-false}
use lib.Dec.{ltb}
use lib.IntN.{ℤ, pos, negsuc, ◌+ℤ◌}
use lib.ListN.{length, get_or, drop, drop_of_length-le}
use lib.Seq.{drop-cons}
use mir.Syntax.{w64}
use mir.Val.{SFits}
use Rattle.whole.specs.Sums.{sum_of}
use Rattle.whole.specs.Whole.{negative, magnitude_of}
use Rattle.amount.specs.Amounts.{largest}
use Rattle.book.specs.Settled.{up_of, down_of, above, below, some_of, any_negative, far_off, any_over, not_nought, added_to}

-- a number by its sign
pub up_below : (z : ℤ) → negative z ≡ true → 0 ≡ up_of z
up_below (pos n) e = let z : ◌≡◌ {A = ℕ} 0 1 = cc in absurd (omega arith)
up_below (negsuc n) e = refl

pub up_from : (z : ℤ) → negative z ≡ false → magnitude_of z ≡ up_of z
up_from (pos n) e = refl
up_from (negsuc n) e = let z : ◌≡◌ {A = ℕ} 0 1 = cc in absurd (omega arith)

pub down_below : (z : ℤ) → negative z ≡ true → magnitude_of z ≡ down_of z
down_below (pos n) e = let z : ◌≡◌ {A = ℕ} 0 1 = cc in absurd (omega arith)
down_below (negsuc n) e = refl

pub down_from : (z : ℤ) → negative z ≡ false → 0 ≡ down_of z
down_from (pos n) e = refl
down_from (negsuc n) e = let z : ◌≡◌ {A = ℕ} 0 1 = cc in absurd (omega arith)

-- an i64 holds it, so that it is at most 2^63
pub up_held : (z : ℤ) → SFits w64 z → up_of z ≤ 2 ^ 63
up_held (pos n) h = omega (arith, h.sfits)
up_held (negsuc n) h = omega arith

pub down_held : (z : ℤ) → SFits w64 z → down_of z ≤ 2 ^ 63
down_held (pos n) h = omega arith
down_held (negsuc n) h = omega (arith, h.sfits)

pub up_within : (z : ℤ) → up_of z ≤ magnitude_of z
up_within (pos n) = omega arith
up_within (negsuc n) = omega arith

pub down_within : (z : ℤ) → down_of z ≤ magnitude_of z
down_within (pos n) = omega arith
down_within (negsuc n) = omega arith

-- some number of a list is such, or none is
module _ (such : ℤ → Bool) where
  none_tail : (z : ℤ) (zs : List ℤ) → some_of such (z ∷ zs) ≡ false → (such z ≡ false) × (some_of such zs ≡ false)
  unfolding some_of
  none_tail z zs e = go (such z) refl e
    where
      go : (x : Bool) → such z ≡ x → cond x true (some_of such zs) ≡ false → (such z ≡ false) × (some_of such zs ≡ false)
      go true s f = let z : ◌≡◌ {A = ℕ} 0 1 = cc in absurd (omega arith)
      go false s f = (s, f)

  -- none is such: nor is any place, nor any behind one
  pub none_at : such (pos 0) ≡ false → (zs : List ℤ) → some_of such zs ≡ false → (i : ℕ) → such (get_or zs i (pos 0)) ≡ false
  none_at nought [] e i = nought
  none_at nought (z ∷ zs) e zero = (none_tail z zs e).0
  none_at nought (z ∷ zs) e (suc i) = none_at nought zs (none_tail z zs e).1 i

  pub none_behind : (zs : List ℤ) → some_of such zs ≡ false → (i : ℕ) → some_of such (drop i zs) ≡ false
  none_behind zs e zero = e
  none_behind [] e (suc i) = e
  none_behind (z ∷ zs) e (suc i) = none_behind zs (none_tail z zs e).1 i

  -- one is such: so is some of the list
  pub some_at : such (pos 0) ≡ false → (zs : List ℤ) (i : ℕ) → such (get_or zs i (pos 0)) ≡ true → some_of such zs ≡ true
  unfolding some_of
  some_at nought [] i e = let z : ◌≡◌ {A = ℕ} 0 1 = cc in absurd (omega arith)
  some_at nought (z ∷ zs) zero e = rw e
  some_at nought (z ∷ zs) (suc i) e = go (such z) (some_at nought zs i e)
    where
      go : (x : Bool) → some_of such zs ≡ true → cond x true (some_of such zs) ≡ true
      go true f = refl
      go false f = f

-- std's word for the same
pub same_any : (such : ℤ → Bool) (zs : List ℤ) → list_any such zs ≡ some_of such zs
unfolding some_of
same_any such [] = refl
same_any such (z ∷ zs) = go (such z) (same_any such zs)
  where
    go : (x : Bool) → list_any such zs ≡ some_of such zs → (x || list_any such zs) ≡ cond x true (some_of such zs)
    go true e = refl
    go false e = e

-- the sums from one place earlier on, whose number is x
module _ (zs : List ℤ) (i : ℕ) (x : ℤ) (here : x ≡ get_or zs i x) where
  pub above_earlier : i < length zs → above (drop i zs) ≡ above (drop (suc i) zs) + up_of x
  unfolding above
  above_earlier l = omega (arith, ap above (drop-cons zs i x l), ap up_of here)

  pub below_earlier : i < length zs → below (drop i zs) ≡ below (drop (suc i) zs) + down_of x
  unfolding below
  below_earlier l = omega (arith, ap below (drop-cons zs i x l), ap down_of here)

-- and past the end
pub none_behind_end : (zs : List ℤ) (i : ℕ) → length zs ≤ i → (above (drop i zs) ≡ 0) × (below (drop i zs) ≡ 0)
unfolding above below
none_behind_end zs i h = rw (drop_of_length-le zs {i = i} h) (refl, refl)

-- within L each: the sums are within as many times L
sums_within : (zs : List ℤ) → any_over zs ≡ false → (above zs ≤ length zs * largest) × (below zs ≤ length zs * largest)
unfolding above below
sums_within [] e = (omega arith, omega arith)
sums_within (z ∷ zs) e =
    let parts = none_tail far_off z zs e in
    let here : magnitude_of z ≤ largest = ltb-false largest (magnitude_of z) parts.0 in
    let rest = sums_within zs parts.1 in
    (omega (arith, up_within z, rest.0), omega (arith, down_within z, rest.1))

pub within : (zs : List ℤ) (i : ℕ) → length zs ≡ 16 → any_over zs ≡ false → (above (drop i zs) ≤ 16 * largest) × (below (drop i zs) ≤ 16 * largest)
within zs i long e =
    let h = sums_within (drop i zs) (none_behind far_off zs e i) in
    let short : length (drop i zs) ≤ 16 = omega (arith, shorter zs i) in
    (omega (arith, h.0), omega (arith, h.1))
  where
    shorter : (l : List ℤ) (k : ℕ) → length (drop k l) ≤ length l
    shorter l zero = omega arith
    shorter [] (suc k) = omega arith
    shorter (x ∷ l) (suc k) = omega (arith, shorter l k)

-- one is negative where the magnitudes below 0 have a sum, and not 0 where all magnitudes have
pub negative_by_sum : (zs : List ℤ) → ltb 0 (below zs) ≡ any_negative zs
unfolding below some_of
negative_by_sum [] = refl
negative_by_sum (pos n ∷ zs) = ap (ltb 0) (zero-add (below zs)) ∙ negative_by_sum zs
negative_by_sum (negsuc n ∷ zs) = lt-ltb 0 (suc n + below zs) (omega arith)

pub nought_by_sum : (zs : List ℤ) → ltb 0 (above zs + below zs) ≡ some_of not_nought zs
unfolding above below some_of
nought_by_sum [] = refl
nought_by_sum (pos zero ∷ zs) = let e : 0 + above zs + (0 + below zs) ≡ above zs + below zs = omega arith in ap (ltb 0) e ∙ nought_by_sum zs
nought_by_sum (pos (suc n) ∷ zs) = lt-ltb 0 (suc n + above zs + (0 + below zs)) (omega arith) ∙ sym (rw (lt-ltb 0 (suc n) (omega arith)))
nought_by_sum (negsuc n ∷ zs) = lt-ltb 0 (0 + above zs + (suc n + below zs)) (omega arith) ∙ sym (rw (lt-ltb 0 (suc n) (omega arith)))

-- where none is negative, their sum and the net total's are within L exactly where the signed sum is
pub limit_by : (net : ℤ) (zs : List ℤ) → ltb (largest + below (net ∷ zs)) (above (net ∷ zs)) ≡ false → negative net ≡ false → any_negative zs ≡ false
    → above zs + magnitude_of net ≤ largest
unfolding above below
limit_by net zs full sign signs =
    let none : below zs ≤ 0 = ltb-false 0 (below zs) (negative_by_sum zs ∙ signs) in
    omega (arith, ltb-false (largest + (down_of net + below zs)) (up_of net + above zs) full, up_from net sign, down_from net sign)

pub not_full : (n : ℕ) (zs : List ℤ) → above zs + n ≤ largest → ltb (largest + below (pos n ∷ zs)) (above (pos n ∷ zs)) ≡ false
unfolding above below
not_full n zs h = le-ltb (largest + (0 + below zs)) (n + above zs) (omega arith)

-- a place is within the sum of those from 0 on
pub place_above : (zs : List ℤ) (i : ℕ) → up_of (get_or zs i (pos 0)) ≤ above zs
unfolding above
place_above [] i = omega arith
place_above (z ∷ zs) zero = omega arith
place_above (z ∷ zs) (suc i) = omega (arith, place_above zs i)

-- running totals added to settled totals
pub length_added : (zs : List ℤ) (ts : List ℕ) → length (added_to zs ts) ≡ length zs
unfolding added_to
length_added [] ts = refl
length_added (z ∷ zs) [] = refl
length_added (z ∷ zs) (t ∷ ts) = ap suc (length_added zs ts)

pub added_place : (zs : List ℤ) (ts : List ℕ) (i a : ℕ) → length ts ≤ length zs → get_or zs i (pos 0) ≡ pos a
    → get_or (added_to zs ts) i (pos 0) ≡ pos (a + get_or ts i 0)
unfolding added_to
added_place [] [] i a h e = e ∙ ap pos (omega arith)
added_place [] (t ∷ ts) i a h e = absurd (omega arith)
added_place (z ∷ zs) [] i a h e = e ∙ ap pos (omega arith)
added_place (z ∷ zs) (t ∷ ts) zero a h e = ap (λ (x : ℤ). x +ℤ pos t) e
added_place (z ∷ zs) (t ∷ ts) (suc i) a h e = added_place zs ts i a (omega arith) e

pub added_sum : (zs : List ℤ) (ts : List ℕ) → length ts ≤ length zs → any_negative zs ≡ false → above (added_to zs ts) ≡ above zs + sum_of ts
unfolding added_to above sum_of
added_sum [] [] h e = refl
added_sum [] (t ∷ ts) h e = absurd (omega arith)
added_sum (z ∷ zs) [] h e = omega arith
added_sum (z ∷ zs) (t ∷ ts) h e =
    let parts = none_tail negative z zs e in
    omega (arith, up_added z t parts.0, added_sum zs ts (omega arith) parts.1)
  where
    up_added : (x : ℤ) (s : ℕ) → negative x ≡ false → up_of (x +ℤ pos s) ≡ up_of x + s
    up_added (pos n) s f = refl
    up_added (negsuc n) s f = let z : ◌≡◌ {A = ℕ} 0 1 = cc in absurd (omega arith)

pub not_negative : (z : ℤ) → negative z ≡ false → z ≡ pos (magnitude_of z)
not_negative (pos n) e = refl
not_negative (negsuc n) e = let z : ◌≡◌ {A = ℕ} 0 1 = cc in absurd (omega arith)
