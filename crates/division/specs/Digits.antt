-- What the functions below `divide` hand each other. No public promise cites it. Assumes nothing.
use Rattle.std.specs.Prelude.{◌≡◌, ℕ, ◌+◌, ◌*◌, ◌/◌, ◌<◌, ◌≤◌}
use Rattle.division.specs.Division.{most}

-- 2^30, and 2^34: their product is a word's
abbrev pub base : ℕ
base = 1073741824

abbrev pub wide : ℕ
wide = 17179869184

-- a quotient and a rest of n by d
pub record Parts (n d quotient rest : ℕ) : Type 0 where
  pub whole : quotient * d + rest ≡ n
  pub small : rest < d

-- what one digit g of a factor is asked of
pub record Digit (d rest r g : ℕ) : Type 0 where
  pub some : 0 < d
  pub before : rest < d
  pub factor : r < d
  pub digit : g < base
  pub within : d ≤ most

-- a quotient and its rest as they are, or one more than 10^18 and none
pub record Caps (quotient rest q s : ℕ) : Type 0 where
  pub within : q ≤ most → (q ≡ quotient) × (s ≡ rest)
  pub over : most < q → (most < quotient) × (q ≡ most + 1) × (s ≡ 0)

-- the same of a x b by d
pub record Divides (a b d q s : ℕ) : Type 0 where
  pub within : q ≤ most → Parts (a * b) d q s
  pub over : most < q → (most < a * b / d) × (q ≡ most + 1) × (s ≡ 0)
