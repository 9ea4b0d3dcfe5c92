-- Document 02, Ask 7: "a numerator given as a product of two factors, each up to 10^18 in magnitude, and a divisor from 1 to 10^18".
-- Cited by `divide`. Assumes nothing.
use Rattle.std.specs.Prelude.{Bool, cond, ◌&&◌, ℕ, ◌+◌, ◌*◌, ◌/◌, ◌%◌, leb}
use Rattle.division.specs.declared.Division.{Division}

abbrev pub most : ℕ
most = 1000000000000000000

-- the factors a and b and the divisor d are within their limits
unfoldable pub within : (a b d : ℕ) → Bool
within a b d = leb a most && leb b most && leb 1 d && leb d most

-- one more than 10^18, and no rest
abbrev pub too_large : Division
too_large = record { quotient = most + 1; rest = 0 }

-- the quotient and the rest of a x b by d; the larger number where the quotient is over 10^18 or there is none
unfoldable pub division_of : (a b d : ℕ) → Division
division_of a b d = cond (within a b d && leb (a * b / d) most) (record { quotient = a * b / d; rest = a * b % d }) too_large
