-- Document 02, Ask 7: "a numerator given as a product of two factors, each up to 10^18 in magnitude, and a divisor from 1 to 10^18; ... if the rounded
-- quotient's magnitude is over 10^18 the leaf gives 13, and only then": as a magnitude, one more than 10^18 stands for over it.
-- Cited by `round_product`. Assumes nothing.
use Rattle.std.specs.Prelude.{Bool, cond, ℕ, ◌+◌, ◌*◌, ltb}
use Rattle.division.specs.Division.{most, within}
use Rattle.rounding.specs.declared.Rule.{Rule}
use Rattle.rounding.specs.Leaf.{rounded_magnitude}

-- at most one more than 10^18
unfoldable pub capped : ℕ → ℕ
capped n = cond (ltb most n) (most + 1) n

-- the magnitude of a x b / d under a rule
unfoldable pub rounded_product : Rule → (negative : Bool) (a b d : ℕ) → ℕ
rounded_product rule negative a b d = cond (within a b d) (capped (rounded_magnitude rule negative (a * b) d)) (most + 1)
