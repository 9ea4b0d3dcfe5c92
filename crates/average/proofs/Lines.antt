-- Lines of the vouchers, each by computing both sides: the textbook's case of D'Hondt's rule, ties, and one where one-off sharing's bound fails.
-- Assumes nothing.
use mathlib.Core.Path.{◌≡◌, refl}
use mathlib.Core.List.{List, [], ◌∷◌}
use Prim.Native.Nat.{ℕ, ◌+◌, ◌*◌, ◌≤◌}
use native.Mathlib.Omega.{arith}
use lib.ListN.{get_or}
use Rattle.whole.specs.Sums.{sum_of}
use Rattle.average.specs.Rule.{highest, give, give_out, vouchers_of}

-- 8 by 100000, 80000, 30000, 20000: 4, 3, 1, 0
pub textbook : vouchers_of 8 (100000 ∷ 80000 ∷ 30000 ∷ 20000 ∷ []) ≡ 4 ∷ 3 ∷ 1 ∷ 0 ∷ []
unfolding vouchers_of give_out give highest
textbook = refl

-- "ties to the lower place": 4 by 1, 1, 1: 2, 1, 1; and 2 by 2, 1, where 2 / 2 and 1 / 1 are equal: 2, 0
pub equal_weights : vouchers_of 4 (1 ∷ 1 ∷ 1 ∷ []) ≡ 2 ∷ 1 ∷ 1 ∷ []
unfolding vouchers_of give_out give highest
equal_weights = refl

pub equal_averages : vouchers_of 2 (2 ∷ 1 ∷ []) ≡ 2 ∷ 0 ∷ []
unfolding vouchers_of give_out give highest
equal_averages = refl

-- "weight 0 never gets one": 2 by 0, 1: 0, 2; and no voucher at all: zeros
pub past_nought : vouchers_of 2 (0 ∷ 1 ∷ []) ≡ 0 ∷ 2 ∷ []
unfolding vouchers_of give_out give highest
past_nought = refl

pub no_voucher : vouchers_of 0 (5 ∷ 3 ∷ 2 ∷ []) ≡ 0 ∷ 0 ∷ 0 ∷ []
unfolding vouchers_of give_out
no_voucher = refl

-- "A partner may end more than a unit from exact": 9 by 10, 1, 1, 1, 1, 1 all go to the first, whose exact share is 6, so that one-off
-- sharing's bound, held x W less than count x weight + W, fails
abbrev pub many : List ℕ
many = 10 ∷ 1 ∷ 1 ∷ 1 ∷ 1 ∷ 1 ∷ []

pub all_to_the_first : vouchers_of 9 many ≡ 9 ∷ 0 ∷ 0 ∷ 0 ∷ 0 ∷ 0 ∷ []
unfolding vouchers_of give_out give highest
all_to_the_first = refl

pub beyond_a_unit : 9 * get_or many 0 0 + sum_of many ≤ get_or (vouchers_of 9 many) 0 0 * sum_of many
unfolding vouchers_of give_out give highest sum_of
beyond_a_unit = omega arith
