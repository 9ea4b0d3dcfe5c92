-- The shares of a magnitude as document 01 words them, with no order of handing out: a list of shares meets the wording, or does not.
-- That the wording leaves one list, and that `shares_of` gives it, is in proofs/Wording.antt. Assumes nothing.
use Rattle.std.specs.Prelude.{◌≡◌, ◌⊎◌, List, ℕ, ◌+◌, ◌*◌, ◌/◌, ◌%◌, ◌≤◌, ◌<◌, length, get_or}
use Rattle.whole.specs.Sums.{sum_of}
use Rattle.remainder.specs.Rule.{rounded_down, units_left}

-- "m x weight / W rounded down", and the remainder "of m x weight by W", at a place
abbrev pub down_at : ℕ → List ℕ → ℕ → ℕ
down_at m ws i = m * get_or ws i 0 / sum_of ws

abbrev pub remainder_at : ℕ → List ℕ → ℕ → ℕ
remainder_at m ws i = m * get_or ws i 0 % sum_of ws

pub record Meets (m : ℕ) (ws shares : List ℕ) : Type 0 where
  pub partners : length shares ≡ length ws
  -- "each gets m x weight / W rounded down", or one unit more
  pub each : (i : ℕ) → i < length ws → (get_or shares i 0 ≡ down_at m ws i) ⊎ (get_or shares i 0 ≡ down_at m ws i + 1)
  -- "the units left go one each": as many places have one more as there are units left
  pub left : sum_of shares ≡ sum_of (rounded_down m ws) + units_left m ws
  -- "to the largest remainders of m x weight by W": who has one more has a remainder at least that of each who has not
  pub largest : (i j : ℕ) → i < length ws → j < length ws → get_or shares i 0 ≡ down_at m ws i + 1 → get_or shares j 0 ≡ down_at m ws j
      → remainder_at m ws j ≤ remainder_at m ws i
  -- "ties to the lower place"
  pub lower : (i j : ℕ) → i < length ws → j < length ws → get_or shares i 0 ≡ down_at m ws i + 1 → get_or shares j 0 ≡ down_at m ws j
      → remainder_at m ws j ≡ remainder_at m ws i → i < j
