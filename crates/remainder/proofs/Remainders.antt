-- The shares rounded down and the remainders, place by place and in sum: the remainders add up to the units left times W,
-- because each weight's product is its quotient times W and its remainder. Assumes nothing.
use mathlib.Core.Path.{◌≡◌, sym, ◌∙◌, ap}
use mathlib.Core.List.{List, [], ◌∷◌, map}
use Prim.Native.Nat.{ℕ, ◌+◌, ◌*◌, ◌/◌, ◌%◌, ◌≤◌, ◌<◌}
use native.Mathlib.Nat.{div-add-mod', mod-lt, zero-div, zero-mod, mul-zero, le_of_mul-le-mul_right, lt_of_mul-lt-mul_right}
use native.Mathlib.Omega.{arith}
use lib.ListN.{length, get_or, length-map, get_or-map}
use Rattle.whole.specs.Sums.{sum_of}
use Rattle.remainder.specs.Rule.{rounded_down, remainders, units_left}

-- past its end a list reads 0, and so does its image
get_d_image : (f : ℕ → ℕ) → f 0 ≡ 0 → (l : List ℕ) (i : ℕ) → get_or (map f l) i 0 ≡ f (get_or l i 0)
get_d_image f e l i = ap (λ (d : ℕ). get_or (map f l) i d) (sym e) ∙ get_or-map f l i 0

split : (m W : ℕ) (ws : List ℕ) → sum_of (map (λ w. m * w / W) ws) * W + sum_of (map (λ w. m * w % W) ws) ≡ m * sum_of ws
unfolding sum_of
split m W [] = omega arith
split m W (w ∷ ws) = omega (arith, split m W ws, div-add-mod' (m * w) W)

-- each remainder is below W
small : (m W : ℕ) → 1 ≤ W → (ws : List ℕ) → sum_of (map (λ w. m * w % W) ws) + length ws ≤ length ws * W
unfolding sum_of
small m W some [] = omega arith
small m W some (w ∷ ws) = omega (arith, small m W some ws, mod-lt (m * w) some)

module _ (m : ℕ) (ws : List ℕ) where
  pub rounded_length : length (rounded_down m ws) ≡ length ws
  unfolding rounded_down
  rounded_length = length-map ws _

  pub remainders_length : length (remainders m ws) ≡ length ws
  unfolding remainders
  remainders_length = length-map ws _

  pub rounded_at : (i : ℕ) → get_or (rounded_down m ws) i 0 ≡ m * get_or ws i 0 / sum_of ws
  unfolding rounded_down
  rounded_at = get_d_image (λ w. m * w / sum_of ws) (rw mul-zero (zero-div (sum_of ws))) ws

  pub remainder_at_lem : (i : ℕ) → get_or (remainders m ws) i 0 ≡ m * get_or ws i 0 % sum_of ws
  unfolding remainders
  remainder_at_lem = get_d_image (λ w. m * w % sum_of ws) (rw mul-zero (zero-mod (sum_of ws))) ws

  module _ (some : 1 ≤ sum_of ws) where
    pub remainder_below : (i : ℕ) → get_or (remainders m ws) i 0 < sum_of ws
    remainder_below i = rw (remainder_at_lem i) (mod-lt (m * get_or ws i 0) some)

    pub rounded_within : sum_of (rounded_down m ws) ≤ m
    unfolding rounded_down
    rounded_within = le_of_mul-le-mul_right {k = sum_of ws} (omega (arith, split m (sum_of ws) ws)) some

    pub units_complete : sum_of (rounded_down m ws) + units_left m ws ≡ m
    unfolding units_left
    units_complete = omega (arith, rounded_within)

    pub remainders_sum : units_left m ws * sum_of ws ≡ sum_of (remainders m ws)
    unfolding remainders rounded_down
    remainders_sum =
        let parts : (sum_of (rounded_down m ws) + units_left m ws) * sum_of ws ≡ m * sum_of ws = ap (λ (x : ℕ). x * sum_of ws) units_complete in
        omega (arith, split m (sum_of ws) ws)

    -- fewer units are left than there are weights
    pub few_left : 1 ≤ length ws → units_left m ws < length ws
    unfolding remainders
    few_left places =
        lt_of_mul-lt-mul_right (sum_of ws) (omega (arith, remainders_sum, small m (sum_of ws) some ws))
