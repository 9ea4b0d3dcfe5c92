-- What the numbers of a program that follows the window stay below, so that they fit its words: the full units of all places are at most
-- n, and with them every slot and every count; the mass is at most t x W. Assumes nothing.
use mathlib.Core.Path.{◌≡◌, refl, ap, ◌∙◌}
use mathlib.Core.List.{List}
use Prim.Native.Nat.{ℕ, zero, suc, ◌+◌, ◌-◌, ◌*◌, ◌/◌, ◌≤◌, ◌<◌}
use native.Mathlib.Nat.{le_refl, le_trans, div-mul-le_self, le_of_mul-le-mul_right}
use native.Mathlib.Decide.{ℕ_discrete, dec_lt, le_ind}
use native.Mathlib.Omega.{arith}
use lib.ListN.{length, get_or, replicate}
use lib.Seq.{get_or-set_same, get_or-set_other, set_out}
use Rattle.units.specs.Rule.{sum_of}
use Rattle.units.specs.Window.{places_sum, lo, full_at, mass_at, ahead_at, ahead_by}
use Rattle.units.specs.Calendar.{bump, first_at, fill_place, fill_places}
use Rattle.whole.proofs.Sums.{sum_list, get_d_noughts}
use Rattle.units.proofs.Places.{places_sum_lem, places_mul, places_le}
use Rattle.units.proofs.Straddle.{ahead_bit}

-- the first i places are within all
places_grow : (f : ℕ → ℕ) (i n : ℕ) → i ≤ n → places_sum f i ≤ places_sum f n
unfolding places_sum
places_grow f i n h = le_ind (λ m. places_sum f i ≤ places_sum f m) (le_refl (places_sum f i)) (λ m l b. omega arith) n h

-- what is at each place at most its weight times c is in all at most W times c
places_weight : (ws : List ℕ) (f : ℕ → ℕ) (c i : ℕ) → ((j : ℕ) → f j ≤ get_or ws j 0 * c) → i ≤ length ws → places_sum f i ≤ sum_of ws * c
places_weight ws f c i each h =
    let w : ℕ → ℕ = λ j. get_or ws j 0 in
    let all : places_sum w (length ws) ≡ sum_of ws = places_sum_lem w (length ws) ∙ sum_list ws (length ws) refl in
    le_trans (places_grow f i (length ws) h)
    (le_trans (places_le f (λ j. w j * c) (length ws) (λ j l. each j))
    (omega (arith, places_mul w c (length ws), ap (λ (z : ℕ). z * c) all)))

-- one more in a slot is at most one more in any
pub bump_bound : (slots : List ℕ) (x j : ℕ) → get_or (bump slots x) j 0 ≤ get_or slots j 0 + 1
bump_bound slots x j = go (ℕ_discrete j x) (dec_lt x (length slots))
  where
    more : ℕ
    more = get_or slots x 0 + 1

    go : Dec (j ≡ x) → Dec (x < length slots) → get_or (bump slots x) j 0 ≤ get_or slots j 0 + 1
    go (yes e) (yes h) = rw e (omega (arith, get_or-set_same slots x more 0 h))
    go (yes e) (no h) = rw (set_out slots x more (omega arith)) (omega arith)
    go (no e) (yes h) = omega (arith, get_or-set_other slots x j more 0 e)
    go (no e) (no h) = omega (arith, get_or-set_other slots x j more 0 e)

-- c units of one place
pub fill_bound : (ws : List ℕ) (u i : ℕ) (slots : List ℕ) (j c : ℕ) → get_or (fill_place ws u i slots c) j 0 ≤ get_or slots j 0 + c
unfolding fill_place
fill_bound ws u i slots j zero = omega arith
fill_bound ws u i slots j (suc c) =
    omega (arith, fill_bound ws u i slots j c, bump_bound (fill_place ws u i slots c) ((first_at ws u i + c) * sum_of ws / get_or ws i 0 - u) j)

module _ (ws : List ℕ) (n : ℕ) where
  -- the first i places' units in any slot
  pub fills_bound : (u size j i : ℕ) → get_or (fill_places ws n u (replicate size 0) i) j 0 ≤ places_sum (lo ws n) i
  unfolding fill_places places_sum
  fills_bound u size j zero = omega (arith, get_d_noughts size j)
  fills_bound u size j (suc i) =
      omega (arith, fills_bound u size j i, fill_bound ws u i (fill_places ws n u (replicate size 0) i) j (lo ws n i - first_at ws u i))

  pub mass_bound : (t i : ℕ) → i ≤ length ws → places_sum (mass_at ws n t) i ≤ t * sum_of ws
  mass_bound t i h = omega (arith, places_weight ws (mass_at ws n t) t i (λ j. omega arith) h)

  module _ (some : 1 ≤ sum_of ws) where
    -- the full units of the first i places
    pub lo_sum : (i : ℕ) → i ≤ length ws → places_sum (lo ws n) i ≤ n
    lo_sum i h =
        le_of_mul-le-mul_right {k = sum_of ws}
        (omega (
          arith,
          places_mul (lo ws n) (sum_of ws) i,
          places_weight ws (λ j. lo ws n j * sum_of ws) n i (λ j. omega (arith, div-mul-le_self (n * get_or ws j 0) (sum_of ws))) h,
        ))
        some

    pub lo_bound : (i : ℕ) → i < length ws → lo ws n i ≤ n
    unfolding places_sum
    lo_bound i h = omega (arith, lo_sum (suc i) h)

    -- those of them that may have been taken by unit t
    pub full_bound : (t i : ℕ) → i ≤ length ws → places_sum (full_at ws n t) i ≤ n
    full_bound t i h = le_trans (places_le (full_at ws n t) (lo ws n) i (λ j l. omega arith)) (lo_sum i h)

    -- there is room for one more in any slot while a full unit is laid down
    pub slot_room : (u size i m j : ℕ) → i < length ws → first_at ws u i ≤ m → m < lo ws n i
        → get_or (fill_place ws u i (fill_places ws n u (replicate size 0) i) (m - first_at ws u i)) j 0 < n
    unfolding places_sum
    slot_room u size i m j h from full =
        omega (arith, fill_bound ws u i (fill_places ws n u (replicate size 0) i) j (m - first_at ws u i), fills_bound u size j i, lo_sum (suc i) h)

    -- no more are ahead than there are places
    pub ahead_bound : (t : ℕ) → t ≤ n → ahead_by ws n t ≤ length ws
    unfolding ahead_by places_sum
    ahead_bound t h = go (length ws)
      where
        go : (i : ℕ) → places_sum (ahead_at ws n t) i ≤ i
        go zero = omega arith
        go (suc i) = omega (arith, go i, ahead_bit ws some n t h i)
