-- Over cards a partner's totals add to all cards' N, and lie less than as many units as there are cards from the exact sum of N x weight / W, which
-- is num / den with den the product of the cards' W: each card's own total lies less than one unit from its exact share. By induction on the
-- cards. Assumes nothing.
use mathlib.Core.Path.{◌≡◌, refl, ◌∙◌}
use mathlib.Core.List.{List, [], ◌∷◌}
use Prim.Native.Nat.{ℕ, zero, suc, ◌+◌, ◌*◌, ◌≤◌, ◌<◌}
use native.Mathlib.Nat.{mul-lt-mul_of_pos_right, mul-pos, div-lt_iff_lt-mul}
use native.Mathlib.Omega.{arith}
use lib.ListN.{length, get_or}
use Rattle.whole.specs.Sums.{sum_of}
use Rattle.whole.proofs.Sums.{sum_to, sum_list}
use Rattle.units.specs.Rule.{totals}
use Rattle.units.proofs.Added.{length_totals, sum_totals}
use Rattle.units.proofs.Floor.{floor}
use Rattle.units.proofs.Ceiling.{below_ceiling}
use Rattle.book.specs.Books.{partners}
use Rattle.book.specs.Quarter.{Card, total_on, totals_on, all_net, den, num, how_many}

-- sixteen places, and someone has a weight
pub record Sixteen (c : Card) : Type 0 where
  pub long : length c.weights ≡ partners
  pub some : 1 ≤ sum_of c.weights

pub data All : List Card → Type 0 where
  none : All []
  more : {c : Card} {cs : List Card} → Sixteen c → All cs → All (c ∷ cs)

-- a card's total is less than one unit from N x weight / W
module _ (i : ℕ) (c : Card) (here : Sixteen c) where
  above : total_on i c * sum_of c.weights < c.net * get_or c.weights i 0 + sum_of c.weights
  above = below_ceiling c.weights here.some c.net i

  below : c.net * get_or c.weights i 0 < total_on i c * sum_of c.weights + sum_of c.weights
  below =
      let h : c.net * get_or c.weights i 0 < (total_on i c + 1) * sum_of c.weights =
      (div-lt_iff_lt-mul here.some).0 (omega (arith, floor c.weights here.some c.net i)) in omega arith

den_some : (cs : List Card) → All cs → 0 < den cs
unfolding den
den_some [] all = omega arith
den_some (c ∷ cs) (more here all) = mul-pos (den_some cs all) here.some

module _ (i : ℕ) where
  -- one card, or more
  pub near : (c : Card) (cs : List Card) → All (c ∷ cs)
      → (totals_on i (c ∷ cs) * den (c ∷ cs) < num i (c ∷ cs) + how_many (c ∷ cs) * den (c ∷ cs))
      × (num i (c ∷ cs) < totals_on i (c ∷ cs) * den (c ∷ cs) + how_many (c ∷ cs) * den (c ∷ cs))
  unfolding den num totals_on how_many
  near c [] (more here all) = (omega (arith, above i c here), omega (arith, below i c here))
  near c (e ∷ cs) (more here all) =
      let d = den (e ∷ cs) in
      let t = totals_on i (e ∷ cs) in
      let n = num i (e ∷ cs) in
      let k = how_many (e ∷ cs) in
      let W = sum_of c.weights in
      let w = get_or c.weights i 0 in
      let h = near e cs all in
      let some : 0 < d = den_some (e ∷ cs) all in
      let a : t * d * W < (n + k * d) * W = mul-lt-mul_of_pos_right h.0 here.some in
      let b : n * W < (t * d + k * d) * W = mul-lt-mul_of_pos_right h.1 here.some in
      let x : total_on i c * W * d < (c.net * w + W) * d = mul-lt-mul_of_pos_right (above i c here) some in
      let y : c.net * w * d < (total_on i c * W + W) * d = mul-lt-mul_of_pos_right (below i c here) some in
      (omega arith, omega arith)

-- the totals of all places add to all cards' N
sum_plus : (f g : ℕ → ℕ) (n : ℕ) → sum_to (λ i. f i + g i) n ≡ sum_to f n + sum_to g n
unfolding sum_to
sum_plus f g zero = refl
sum_plus f g (suc n) = omega (arith, sum_plus f g n)

sum_none : (n : ℕ) → sum_to (λ i. 0) n ≡ 0
unfolding sum_to
sum_none zero = refl
sum_none (suc n) = omega (arith, sum_none n)

pub all_net_lem : (cs : List Card) → All cs → sum_to (λ i. totals_on i cs) partners ≡ all_net cs
unfolding totals_on all_net
all_net_lem [] all = sum_none partners
all_net_lem (c ∷ cs) (more here all) =
    let ts = totals c.weights c.net in
    let card : sum_to (λ i. total_on i c) partners ≡ c.net =
    sum_list ts partners (length_totals c.weights c.net ∙ here.long) ∙ sum_totals c.weights here.some c.net in
    omega (arith, sum_plus (λ i. totals_on i cs) (λ i. total_on i c) partners, card, all_net_lem cs all)
