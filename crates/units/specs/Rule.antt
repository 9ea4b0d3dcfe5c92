-- Document 01, "The share book", the paragraph "Who gets unit number t": the taker of a unit, and the running totals.
-- Partners are places of a list of weights; `W` is the sum of the weights, `held` the units that each place has so far.
-- Cited by the book's promises. Assumes nothing.
use Rattle.std.specs.Prelude.{Bool, cond, List, ℕ, zero, suc, ◌+◌, ◌-◌, ◌*◌, ◌/◌, ltb, length, get_or, set, replicate}
unfoldable pub use Rattle.whole.specs.Sums.{sum_of}

-- "let a partner with weight w have a units so far. It may take the unit if a x W < t x w."
unfoldable pub may_take : (W t w a : ℕ) → Bool
may_take W t w a = ltb (a * W) (t * w)

-- "Its due number is (a + 1) x W / w rounded up."
unfoldable pub due : (W w a : ℕ) → ℕ
due W w a = ((a + 1) * W + (w - 1)) / w

-- nobody, or the partner at a place
pub data Taker : Type 0 where
  nobody : Taker
  place : ℕ → Taker

-- "Of those who may, the smallest due number takes it; ties go to the lower place": the best of the places before i, against place i.
-- `may` and `owed` say of a place whether it may take the unit, and its due number.
abbrev pub better : (may : ℕ → Bool) (owed : ℕ → ℕ) → Taker → ℕ → Taker
better may owed nobody i = cond (may i) (place i) nobody
better may owed (place p) i = cond (may i) (cond (ltb (owed i) (owed p)) (place i) (place p)) (place p)

-- the best of the first i places
unfoldable pub best_of : (may : ℕ → Bool) (owed : ℕ → ℕ) → ℕ → Taker
best_of may owed zero = nobody
best_of may owed (suc i) = better may owed (best_of may owed i) i

-- the partner at place i may take unit number t, and its due number, where the places hold so many units
abbrev pub may_at : (ws held : List ℕ) (t : ℕ) → ℕ → Bool
may_at ws held t i = may_take (sum_of ws) t (get_or ws i 0) (get_or held i 0)

abbrev pub due_at : (ws held : List ℕ) → ℕ → ℕ
due_at ws held i = due (sum_of ws) (get_or ws i 0) (get_or held i 0)

-- who takes unit number t
unfoldable pub taker_of : (ws held : List ℕ) (t : ℕ) → Taker
taker_of ws held t = best_of (may_at ws held t) (due_at ws held) (length ws)

-- the unit is given to its taker
abbrev pub give : Taker → List ℕ → List ℕ
give nobody held = held
give (place p) held = set held p (get_or held p 0 + 1)

-- "The running total of a partner at N is its units among the first N": all partners' running totals at n
unfoldable pub totals : (ws : List ℕ) (n : ℕ) → List ℕ
totals ws zero = replicate (length ws) 0
totals ws (suc n) = give (taker_of ws (totals ws n) (suc n)) (totals ws n)
