-- A lent list of weights. Document 01, "One-off sharing by largest remainder": "A lent list of 1 to 64 weights with sum W from 1 to 1,000,000
-- (else 9); single weights may be 0"; document 02, Ask 12: "over 1 to 64 weights, sum 1 to 1,000,000 (else 9)". Cited by every call that
-- takes one. Assumes nothing.
use Rattle.std.specs.Prelude.{cond, List, [], ◌∷◌, ℕ, ◌≤◌, ltb, length}
use Rattle.refusal.specs.Rows.{Row, row}
use Rattle.refusal.specs.declared.Refusal.TheVariants.{Weights, Room}
use Rattle.whole.specs.Sums.{sum_of}

-- "1 to 64 weights"
abbrev pub most_weights : ℕ
most_weights = 64

-- "sum W from 1 to 1,000,000"
abbrev pub largest_sum : ℕ
largest_sum = 1000000

-- rows 9 and 11 at a list of weights and an output of so many places: "weights (never negative) break their rule, in number, in sum", and
-- "the lent output has fewer places than there are weights"
unfoldable pub list_rows : List ℕ → ℕ → List Row
list_rows ws room =
    row Weights (ltb (length ws) 1)
    ∷ row Weights (ltb most_weights (length ws))
    ∷ row Weights (ltb (sum_of ws) 1)
    ∷ row Weights (ltb largest_sum (sum_of ws))
    ∷ row Room (ltb room (length ws))
    ∷ []

-- none of these rows holds
pub record Allowed (ws : List ℕ) (room : ℕ) : Type 0 where
  pub some : 1 ≤ length ws
  pub most : length ws ≤ most_weights
  pub above : 1 ≤ sum_of ws
  pub within : sum_of ws ≤ largest_sum
  pub fits : length ws ≤ room

-- the sum W of a list of at most 64 weights, and 0 where there are more
unfoldable pub weighed : List ℕ → ℕ
weighed ws = cond (ltb most_weights (length ws)) 0 (sum_of ws)
