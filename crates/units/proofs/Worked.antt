-- Document 01's worked book, weights 5, 3, 2: who takes the units 1 to 10, and the totals that its postings and its refund come to.
-- Each line computes. Assumes nothing.
use mathlib.Core.Path.{◌≡◌, refl}
use mathlib.Core.List.{List, [], ◌∷◌, ◌++◌}
use Prim.Native.Nat.{ℕ, zero, suc}
use Rattle.units.specs.Rule.{sum_of, may_take, due, best_of, Taker, place, taker_of, totals}

-- who takes the units 1 to n, in order
unfoldable pub takers : (ws : List ℕ) (n : ℕ) → List Taker
takers ws zero = []
takers ws (suc n) = takers ws n ++ (taker_of ws (totals ws n) (suc n) ∷ [])

abbrev pub worked : List ℕ
worked = 5 ∷ 3 ∷ 2 ∷ []

pub worked_takers : takers worked 10 ≡ place 0 ∷ place 1 ∷ place 0 ∷ place 2 ∷ place 0 ∷ place 1 ∷ place 0 ∷ place 1 ∷ place 0 ∷ place 2 ∷ []
unfolding takers taker_of totals best_of sum_of may_take due
worked_takers = refl

pub worked_7 : totals worked 7 ≡ 4 ∷ 2 ∷ 1 ∷ []
unfolding taker_of totals best_of sum_of may_take due
worked_7 = refl

pub worked_12 : totals worked 12 ≡ 6 ∷ 4 ∷ 2 ∷ []
unfolding taker_of totals best_of sum_of may_take due
worked_12 = refl

pub worked_9 : totals worked 9 ≡ 5 ∷ 3 ∷ 1 ∷ []
unfolding taker_of totals best_of sum_of may_take due
worked_9 = refl
