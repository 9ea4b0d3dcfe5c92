-- Document 01, "The share book": sixteen places with weights whose sum is from 1 to 10,000. Cited by every promise about a book.
-- Assumes nothing.
use Rattle.std.specs.Prelude.{◌≡◌, Bool, true, false, cond, List, ℕ, ◌≤◌, ltb, replicate}
use Rattle.whole.specs.Sums.{sum_of}

-- "a count of 1 to 16, sixteen weights (those past the count are 0) with sum W from 1 to 10,000"
abbrev pub partners : ℕ
partners = 16

abbrev pub weight_sum : ℕ
weight_sum = 10000

-- sixteen zeros
abbrev pub zeros : List ℕ
zeros = replicate partners 0

-- the sum of the weights is in its limits
unfoldable pub weighed : List ℕ → Bool
weighed ws = cond (ltb (sum_of ws) 1) false (cond (ltb weight_sum (sum_of ws)) false true)

-- sixteen weights with sum W, from 1 to 10,000
pub record Weighed (ws : List ℕ) (sum : ℕ) : Type 0 where
  pub same : sum ≡ sum_of ws
  pub some : 1 ≤ sum
  pub most : sum ≤ weight_sum
