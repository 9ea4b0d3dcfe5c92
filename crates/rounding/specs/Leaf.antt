-- Document 01, "Seven modes": "A quotient n / d has signed n and positive d", by sign and magnitude.
-- Cited by `round` and by every promise that rounds. Assumes nothing.
use Rattle.std.specs.Prelude.{Bool, true, false, cond, ℕ, ◌+◌, ◌/◌, ◌%◌, ltb, eqb, ℤ}
use Rattle.whole.specs.Whole.{negative, magnitude_of, signed_of}
use Rattle.rounding.specs.declared.Rule.{Rule}
use Rattle.rounding.specs.declared.Rest.{Rest}
use Rattle.rounding.specs.declared.Rest.TheVariants.{Exact, Below, Half, Above}
use Rattle.rounding.specs.Modes.{rises_by}

-- a rest r of a division by d: none, or below, at or above the half of d
unfoldable pub rest_of : (r d : ℕ) → Rest
rest_of r d = cond (eqb r 0) Exact (cond (ltb (r + r) d) Below (cond (eqb (r + r) d) Half Above))

unfoldable pub is_odd : ℕ → Bool
is_odd n = eqb (n % 2) 1

-- one more, where the rule says so
abbrev pub raised : Bool → ℕ → ℕ
raised true q = q + 1
raised false q = q

-- the magnitude of n / d under a rule, for a number that is negative or not; a divisor of 0 has no quotient, and 0 stands there
unfoldable pub rounded_magnitude : Rule → (negative : Bool) (n d : ℕ) → ℕ
rounded_magnitude rule negative n d =
    cond (eqb d 0) 0 (raised (rises_by rule negative (is_odd (n / d)) (rest_of (n % d) d)) (n / d))

-- n / d under a rule
unfoldable pub rounded : Rule → ℤ → ℕ → ℤ
rounded rule n d = signed_of (negative n) (rounded_magnitude rule (negative n) (magnitude_of n) d)
