-- Document 01, "The share book": "The running total of a partner at N is its units among the first N", counted unit by unit.
-- That the running totals are these counts is in proofs/Counted.antt. Assumes nothing.
use Rattle.std.specs.Prelude.{cond, List, ℕ, zero, suc, ◌+◌, eqb}
use Rattle.units.specs.Rule.{Taker, nobody, place, taker_of, totals}

-- a unit's taker is place i: 1, else 0
abbrev pub one_to : Taker → ℕ → ℕ
one_to nobody i = 0
one_to (place p) i = cond (eqb p i) 1 0

-- place i's units among the first n
unfoldable pub count_of : (ws : List ℕ) (i n : ℕ) → ℕ
count_of ws i zero = 0
count_of ws i (suc n) = count_of ws i n + one_to (taker_of ws (totals ws n) (suc n)) i
