-- A weight's share of m, whole x W + part, is whole x weight and its share of the part, whose product is small whatever m is. Assumes nothing.
use mathlib.Core.Path.{◌≡◌, sym, ◌∙◌, ap}
use mathlib.Core.List.{List}
use Prim.Native.Nat.{ℕ, ◌+◌, ◌*◌, ◌/◌, ◌%◌, ◌≤◌}
use native.Mathlib.Nat.{div-add-mod', mul-add-div_right, mul-add-mod_self_right, mul-le-mul, mod-lt}
use native.Mathlib.Omega.{arith}
use lib.ListN.{get_or}
use Rattle.whole.specs.Sums.{sum_of}
use Rattle.whole.proofs.Sums.{place_within}
use Rattle.weights.specs.Weights.{largest_sum}
use Rattle.remainder.specs.Rule.{rounded_down, remainders}
use Rattle.remainder.proofs.Remainders.{rounded_at, remainder_at_lem}

module _ (m w W : ℕ) (some : 1 ≤ W) where
  parts : m * w ≡ m / W * w * W + m % W * w
  parts = let times : (m / W * W + m % W) * w ≡ m * w = ap (λ (x : ℕ). x * w) (div-add-mod' m W) in omega arith

  pub share_by_parts : m / W * w + m % W * w / W ≡ m * w / W
  share_by_parts = rw parts (sym (mul-add-div_right some (m / W * w) (m % W * w)))

  pub rest_by_parts : m % W * w % W ≡ m * w % W
  rest_by_parts = rw parts (sym (mul-add-mod_self_right (m / W * w) W (m % W * w)))

-- the same at a place, by the sum as it was weighed; both products are small
module _ (m : ℕ) (ws : List ℕ) (total i : ℕ) (weighed : total ≡ sum_of ws) (some : 1 ≤ sum_of ws) where
  pub share_at : m / total * get_or ws i 0 + m % total * get_or ws i 0 / total ≡ get_or (rounded_down m ws) i 0
  share_at = rw weighed (share_by_parts m (get_or ws i 0) (sum_of ws) some ∙ sym (rounded_at m ws i))

  pub rest_at : m % total * get_or ws i 0 % total ≡ get_or (remainders m ws) i 0
  rest_at = rw weighed (rest_by_parts m (get_or ws i 0) (sum_of ws) some ∙ sym (remainder_at_lem m ws i))

  pub product_small : sum_of ws ≤ largest_sum → m % total * get_or ws i 0 ≤ largest_sum * largest_sum
  product_small within =
      let part : m % total ≤ largest_sum = rw weighed (omega (arith, mod-lt m some)) in
      let weight : get_or ws i 0 ≤ largest_sum = omega (arith, place_within ws i) in mul-le-mul part weight
