-- Lines of the call, each by computing both sides: "Over 10,000 vouchers: 6; output too short: 11", "1 to 64 weights, sum 1 to 1,000,000 (else 9)", the
-- lower number first. Assumes nothing.
use mathlib.Core.Path.{◌≡◌, refl}
use mathlib.Core.List.{[], ◌∷◌}
use Rattle.refusal.specs.Rows.{gives, refuses}
use Rattle.whole.specs.Sums.{sum_of}
use Rattle.weights.specs.Weights.{list_rows}
use Rattle.average.specs.Rule.{vouchers_of}
use Rattle.vouchers.specs.Said.{vouchers_said}

pub ten_thousand : vouchers_said 10000 (1 ∷ 0 ∷ []) 2 ≡ gives (vouchers_of 10000 (1 ∷ 0 ∷ []))
unfolding vouchers_said list_rows sum_of
ten_thousand = refl

pub one_more : vouchers_said 10001 (1 ∷ 0 ∷ []) 2 ≡ refuses 6 0
unfolding vouchers_said
one_more = refl

pub no_weights_lem : vouchers_said 8 [] 2 ≡ refuses 9 0
unfolding vouchers_said list_rows
no_weights_lem = refl

pub large_sum : vouchers_said 8 (1000000 ∷ 1 ∷ []) 2 ≡ refuses 9 0
unfolding vouchers_said list_rows sum_of
large_sum = refl

pub too_short : vouchers_said 8 (1 ∷ 0 ∷ []) 1 ≡ refuses 11 0
unfolding vouchers_said list_rows sum_of
too_short = refl

-- more than one row: 6 before 9, 9 before 11
pub six_first : vouchers_said 10001 [] 0 ≡ refuses 6 0
unfolding vouchers_said
six_first = refl

pub nine_next : vouchers_said 10000 (0 ∷ []) 0 ≡ refuses 9 0
unfolding vouchers_said list_rows sum_of
nine_next = refl
