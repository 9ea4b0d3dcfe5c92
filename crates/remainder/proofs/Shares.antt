-- The shares of a magnitude m by weights with a sum W above 0: they add up to m, each is within one unit of exact, the units
-- left go to the largest remainders, and equal weights differ by at most one unit. Each is read off from what holds after the
-- units left are handed out, for the remainders add up to W for each of them. Assumes nothing.
use mathlib.Core.Path.{◌≡◌, sym, ◌∙◌, ap}
use mathlib.Core.Logic.{◌⊎◌, inl, inr, ⊎_elim}
use mathlib.Core.List.{List, [], ◌∷◌}
use Prim.Native.Nat.{ℕ, ◌+◌, ◌*◌, ◌/◌, ◌%◌, ◌≤◌, ◌<◌}
use native.Mathlib.Nat.{le_of_eq, mul-zero, zero-mod, zero-div, div-add-mod', mod-lt}
use native.Mathlib.Omega.{arith}
use lib.ListN.{length, get_or}
use Rattle.whole.specs.Sums.{sum_of}
use Rattle.remainder.specs.Rule.{rounded_down, remainders, units_left, hand_out, shares_of}
use Rattle.remainder.proofs.Remainders.{rounded_length, remainders_length, rounded_at, remainder_at_lem, remainder_below, units_complete, remainders_sum}
use Rattle.remainder.proofs.Handing.{Place, kept, served, Fair, fair_after, shares_length, handed_sum}

-- as many shares as weights
pub length_is : (m : ℕ) (ws : List ℕ) → length (shares_of m ws) ≡ length ws
unfolding shares_of
length_is m ws = shares_length (units_left m ws) (record { shares = rounded_down m ws; unserved = remainders m ws }) ∙ rounded_length m ws

-- a sum above 0 has a place
pub places : (ws : List ℕ) → 1 ≤ sum_of ws → 1 ≤ length ws
unfolding sum_of
places [] some = absurd (omega arith)
places (w ∷ ws) some = omega arith

module _ (m : ℕ) (ws : List ℕ) (some : 1 ≤ sum_of ws) where
  fair : Fair (rounded_down m ws) (remainders m ws) (sum_of ws) (units_left m ws)
      (hand_out (units_left m ws) (record { shares = rounded_down m ws; unserved = remainders m ws }))
  fair =
      fair_after (rounded_down m ws) (remainders m ws) (sum_of ws) (remainder_below m ws some) (remainders_length m ws ∙ sym (rounded_length m ws))
      (units_left m ws) (le_of_eq (remainders_sum m ws some))

  -- the shares add up
  pub sum_is : sum_of (shares_of m ws) ≡ m
  unfolding shares_of
  sum_is =
      handed_sum (units_left m ws) (record { shares = rounded_down m ws; unserved = remainders m ws }) (omega (arith, remainders_length m ws, places ws some))
      (remainders_length m ws ∙ sym (rounded_length m ws))
      ∙ units_complete m ws some

  place_is : (i : ℕ) → (rest : ℕ) × Place (m * get_or ws i 0 / sum_of ws) (m * get_or ws i 0 % sum_of ws) (get_or (shares_of m ws) i 0) rest
  unfolding shares_of
  place_is i = (
    get_or (hand_out (units_left m ws) (record { shares = rounded_down m ws; unserved = remainders m ws })).unserved i 0,
    rw (← rounded_at m ws i, ← remainder_at_lem m ws i) (fair.place i),
  )

  -- each is its exact share rounded down, or one unit more
  pub down_or_more : (i : ℕ) → (get_or (shares_of m ws) i 0 ≡ m * get_or ws i 0 / sum_of ws) ⊎ (get_or (shares_of m ws) i 0 ≡ m * get_or ws i 0 / sum_of ws + 1)
  down_or_more i = go (place_is i).1
    where
      go : {f r share rest : ℕ} → Place f r share rest → (share ≡ f) ⊎ (share ≡ f + 1)
      go (kept share rest) = inl share
      go (served share rest above) = inr share

  -- one unit more only where there is a remainder
  pub more_has_remainder : (i : ℕ) → get_or (shares_of m ws) i 0 ≡ m * get_or ws i 0 / sum_of ws + 1 → 0 < m * get_or ws i 0 % sum_of ws
  more_has_remainder i = go (place_is i).1
    where
      go : {f r share rest : ℕ} → Place f r share rest → share ≡ f + 1 → 0 < r
      go (kept share rest) more = absurd (omega arith)
      go (served share rest above) more = above

  -- so each is within one unit of exact, on either side: times W, less than W from m x weight
  pub within_one : (i : ℕ) → (m * get_or ws i 0 < get_or (shares_of m ws) i 0 * sum_of ws + sum_of ws)
      × (get_or (shares_of m ws) i 0 * sum_of ws < m * get_or ws i 0 + sum_of ws)
  within_one i = go (place_is i).1 (div-add-mod' (m * get_or ws i 0) (sum_of ws)) (mod-lt (m * get_or ws i 0) some)
    where
      go : {f r share rest exact W : ℕ} → Place f r share rest → f * W + r ≡ exact → r < W
          → (exact < share * W + W) × (share * W < exact + W)
      go {W = W} (kept share rest) parts below = let times = ap (λ (x : ℕ). x * W) share in (omega arith, omega arith)
      go {W = W} (served share rest above) parts below = let times = ap (λ (x : ℕ). x * W) share in (omega arith, omega arith)

  -- a weight of 0 gets 0
  pub nothing_for_nothing : (i : ℕ) → get_or ws i 0 ≡ 0 → get_or (shares_of m ws) i 0 ≡ 0
  nothing_for_nothing i e = go (place_is i).1 (rw (e, mul-zero) (zero-div (sum_of ws))) (rw (e, mul-zero) (zero-mod (sum_of ws)))
    where
      go : {f r share rest : ℕ} → Place f r share rest → f ≡ 0 → r ≡ 0 → share ≡ 0
      go (kept share rest) none exact = share ∙ none
      go (served share rest above) none exact = absurd (omega arith)

  -- the units left go to the largest remainders, ties to the lower place: one unit more for i and not for j says which stands before
  pub largest_first : (i j : ℕ) → j < length ws → get_or (shares_of m ws) i 0 ≡ m * get_or ws i 0 / sum_of ws + 1
      → get_or (shares_of m ws) j 0 ≡ m * get_or ws j 0 / sum_of ws
      → (m * get_or ws j 0 % sum_of ws < m * get_or ws i 0 % sum_of ws) ⊎ ((m * get_or ws j 0 % sum_of ws ≡ m * get_or ws i 0 % sum_of ws) × (i < j))
  unfolding shares_of
  largest_first i j inside more same =
      rw (← remainder_at_lem m ws i, ← remainder_at_lem m ws j)
      (fair.order i j (omega (arith, rounded_length m ws)) (more ∙ ap (λ (x : ℕ). x + 1) (sym (rounded_at m ws i))) (same ∙ sym (rounded_at m ws j)))

  -- equal weights get shares that differ by at most one unit, the lower place first
  pub equal_weights : (i j : ℕ) → i < j → j < length ws → get_or ws i 0 ≡ get_or ws j 0
      → (get_or (shares_of m ws) j 0 ≤ get_or (shares_of m ws) i 0) × (get_or (shares_of m ws) i 0 ≤ get_or (shares_of m ws) j 0 + 1)
  equal_weights i j lower inside e = go (place_is i).1 (place_is j).1
    where
      floors : m * get_or ws i 0 / sum_of ws ≡ m * get_or ws j 0 / sum_of ws
      floors = rw e

      rests : m * get_or ws i 0 % sum_of ws ≡ m * get_or ws j 0 % sum_of ws
      rests = rw e

      go : {x y : ℕ} → Place (m * get_or ws i 0 / sum_of ws) (m * get_or ws i 0 % sum_of ws) (get_or (shares_of m ws) i 0) x
          → Place (m * get_or ws j 0 / sum_of ws) (m * get_or ws j 0 % sum_of ws) (get_or (shares_of m ws) j 0) y
          → (get_or (shares_of m ws) j 0 ≤ get_or (shares_of m ws) i 0) × (get_or (shares_of m ws) i 0 ≤ get_or (shares_of m ws) j 0 + 1)
      go (kept a _) (kept b _) = (omega (arith, floors), omega (arith, floors))
      go (served a _ _) (kept b _) = (omega (arith, floors), omega (arith, floors))
      go (served a _ _) (served b _ _) = (omega (arith, floors), omega (arith, floors))
      go (kept a _) (served b _ _) =
          absurd (⊎_elim (λ less. omega (arith, rests)) (λ tie. omega arith) (largest_first j i (omega arith) b a))
