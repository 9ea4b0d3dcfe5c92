-- Document 01, "Two sides of each line": the four lines on sharing, each by computing both sides. Assumes nothing.
use mathlib.Core.Path.{◌≡◌, refl}
use mathlib.Core.List.{[], ◌∷◌}
use lib.IntN.{pos, neg_ℤ}
use Rattle.whole.specs.Sums.{sum_of}
use Rattle.remainder.specs.Rule.{rounded_down, remainders, units_left, largest, hand_out, shares_of, signed_shares}

-- "100 by 1, 1, 1: 34, 33, 33"
pub by_three : signed_shares (pos 100) (1 ∷ 1 ∷ 1 ∷ []) ≡ pos 34 ∷ pos 33 ∷ pos 33 ∷ []
unfolding signed_shares shares_of units_left hand_out rounded_down remainders largest sum_of
by_three = refl

-- "100 by 3, 3, 1: 43, 43, 14"
pub by_seven : signed_shares (pos 100) (3 ∷ 3 ∷ 1 ∷ []) ≡ pos 43 ∷ pos 43 ∷ pos 14 ∷ []
unfolding signed_shares shares_of units_left hand_out rounded_down remainders largest sum_of
by_seven = refl

-- "10 by 0, 1, 1, 1: 0, 4, 3, 3"
pub past_nought : signed_shares (pos 10) (0 ∷ 1 ∷ 1 ∷ 1 ∷ []) ≡ pos 0 ∷ pos 4 ∷ pos 3 ∷ pos 3 ∷ []
unfolding signed_shares shares_of units_left hand_out rounded_down remainders largest sum_of
past_nought = refl

-- "-100 by 3, 3, 1: -43, -43, -14"
pub below_nought : signed_shares (neg_ℤ (pos 100)) (3 ∷ 3 ∷ 1 ∷ []) ≡ neg_ℤ (pos 43) ∷ neg_ℤ (pos 43) ∷ neg_ℤ (pos 14) ∷ []
unfolding signed_shares shares_of units_left hand_out rounded_down remainders largest sum_of
below_nought = refl
