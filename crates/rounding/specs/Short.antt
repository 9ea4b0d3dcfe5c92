-- What `round_product` asks first. No public promise cites it. Assumes nothing.
use Rattle.std.specs.Prelude.{Bool, ◌&&◌, ℕ, ◌+◌, leb}
use Rattle.std.specs.Int.Count.{count_leading_zeros}
use Rattle.division.specs.Division.{most}

abbrev pub spare : ℕ
spare = 69

-- of 128 bits the factors a and b leave so many unused, and the divisor d is within its limits
unfoldable pub is_short : (a b d : ℕ) → Bool
is_short a b d = leb spare (count_leading_zeros 64 a + count_leading_zeros 64 b) && leb 1 d && leb d most
