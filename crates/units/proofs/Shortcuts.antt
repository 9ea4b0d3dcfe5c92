-- Three of the shortcuts that document 01 warns of give a partner too much, or take a unit back where one is added; the rule's own
-- totals stand beside each. Every line computes. Assumes nothing.
use mathlib.Core.Path.{◌≡◌, refl}
use mathlib.Core.List.{List, [], ◌∷◌, map}
use Prim.Native.Nat.{ℕ, zero, suc, ◌-◌, ◌*◌, ◌/◌, ◌%◌}
use lib.Dec.{eqb}
use lib.ListN.{length, get_or, take}
use Rattle.units.specs.Rule.{sum_of, may_take, due, best_of, give, taker_of, totals}
use Rattle.units.proofs.Worked.{worked}

-- n units shared by largest remainder: each share rounded down, then k units more, each to the largest remainder not yet served
handed : (ws : List ℕ) (n k : ℕ) → List ℕ
handed ws n zero = map (λ w. n * w / sum_of ws) ws
handed ws n (suc k) =
    let held : List ℕ = handed ws n k in
    give (best_of (λ i. eqb (get_or held i 0) (n * get_or ws i 0 / sum_of ws)) (λ i. sum_of ws - n * get_or ws i 0 % sum_of ws) (length ws)) held

unfoldable pub shared : (ws : List ℕ) (n : ℕ) → List ℕ
unfolding handed
shared ws n = handed ws n (n - sum_of (handed ws n 0))

-- the first i + 1 partners' share of n rounded down, less the first i partners'
unfoldable pub prefix_share : (ws : List ℕ) (n i : ℕ) → ℕ
prefix_share ws n i = n * sum_of (take (suc i) ws) / sum_of ws - n * sum_of (take i ws) / sum_of ws

-- "Sharing each posting afresh. Three postings of 1 by 1, 1, 1 give 3, 0, 0"
pub afresh : shared (1 ∷ 1 ∷ 1 ∷ []) 1 ≡ 1 ∷ 0 ∷ 0 ∷ []
unfolding shared best_of sum_of
afresh = refl

pub afresh_rule : totals (1 ∷ 1 ∷ 1 ∷ []) 3 ≡ 1 ∷ 1 ∷ 1 ∷ []
unfolding totals taker_of best_of sum_of may_take due
afresh_rule = refl

-- "Largest remainder of the running total. Weights 6, 6, 2: at 10 the last has 2, at 11 it has 1"
pub remainder_falls : (shared (6 ∷ 6 ∷ 2 ∷ []) 10 ≡ 4 ∷ 4 ∷ 2 ∷ []) × (shared (6 ∷ 6 ∷ 2 ∷ []) 11 ≡ 5 ∷ 5 ∷ 1 ∷ [])
unfolding shared best_of sum_of
remainder_falls = (refl, refl)

pub remainder_rule : (totals (6 ∷ 6 ∷ 2 ∷ []) 10 ≡ 5 ∷ 4 ∷ 1 ∷ []) × (totals (6 ∷ 6 ∷ 2 ∷ []) 11 ≡ 5 ∷ 5 ∷ 1 ∷ [])
unfolding totals taker_of best_of sum_of may_take due
remainder_rule = (refl, refl)

-- "Differences of rounded-down prefix shares. Weights 5, 3, 2: the second has 2 at 5 and 1 at 6"
pub prefix_falls : (prefix_share worked 5 1 ≡ 2) × (prefix_share worked 6 1 ≡ 1)
unfolding prefix_share sum_of
prefix_falls = (refl, refl)

pub prefix_rule : (totals worked 5 ≡ 3 ∷ 1 ∷ 1 ∷ []) × (totals worked 6 ≡ 3 ∷ 2 ∷ 1 ∷ [])
unfolding totals taker_of best_of sum_of may_take due
prefix_rule = (refl, refl)
