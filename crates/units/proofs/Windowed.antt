-- Weights 6, 6, 2 at n = 10 through the window: a window may start after unit 9 and not after 10, the first of the three is ahead at the end,
-- and the slots hold the full units of the window. Each line computes. Assumes nothing.
use mathlib.Core.Path.{◌≡◌, refl}
use mathlib.Core.List.{List, [], ◌∷◌}
use Prim.Native.Nat.{ℕ}
use Rattle.units.specs.Rule.{sum_of, may_take, due, best_of, taker_of, totals}
use Rattle.units.specs.Window.{places_sum, reach, full_by, mass, straddler, ahead_next, ahead_after}
use Rattle.units.specs.Calendar.{fill_place, fill_places, calendar}
use Rattle.units.specs.Mask.{mask_of, mask}

abbrev three : List ℕ
three = 6 ∷ 6 ∷ 2 ∷ []

pub three_mass : (mass three 10 9 ≡ 4) × (mass three 10 10 ≡ 14)
unfolding mass places_sum sum_of
three_mass = (refl, refl)

pub three_ahead : (ahead_after (full_by three 10) three 10 9 1 ≡ 1 ∷ 0 ∷ 0 ∷ []) × (ahead_after (full_by three 10) three 10 0 10 ≡ 1 ∷ 0 ∷ 0 ∷ [])
unfolding ahead_after ahead_next straddler best_of full_by reach places_sum sum_of may_take due
three_ahead = (refl, refl)

pub three_slots : calendar three 10 0 10 ≡ 3 ∷ 0 ∷ 2 ∷ 0 ∷ 2 ∷ 0 ∷ 0 ∷ 2 ∷ 0 ∷ 0 ∷ []
unfolding calendar fill_places fill_place reach sum_of
three_slots = refl

pub three_mask : (mask three 10 ≡ 1) × (mask three 11 ≡ 3)
unfolding mask mask_of totals taker_of best_of sum_of may_take due
three_mask = (refl, refl)
