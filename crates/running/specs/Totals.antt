-- Document 01, "The share book": "The running total of a partner at N", and the difference of the running totals at two net totals.
-- Cited by `totals_at` and `units_between`. Assumes nothing.
use Rattle.std.specs.Prelude.{cond, List, [], ◌∷◌, ℕ, ◌-◌}
use Rattle.units.specs.Rule.{totals}
use Rattle.running.specs.Limits.{zeros, weighed}

-- the running totals at n; sixteen zeros where the weights break their rule
unfoldable pub totals_at : (ws : List ℕ) (n : ℕ) → List ℕ
totals_at ws n = cond (weighed ws) (totals ws n) zeros

-- place by place, the one list less the other
unfoldable pub less_of : List ℕ → List ℕ → List ℕ
less_of [] ys = []
less_of (x ∷ xs) [] = x ∷ xs
less_of (x ∷ xs) (y ∷ ys) = (x - y) ∷ less_of xs ys
