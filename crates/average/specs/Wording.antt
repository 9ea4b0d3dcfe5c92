-- The holdings by highest average with no order of giving out: no voucher held would go to another partner by the rule. That this leaves one
-- list for each number of vouchers, and that `vouchers_of` gives it, is in proofs/Wording.antt. Assumes nothing.
use Rattle.std.specs.Prelude.{◌≡◌, List, ℕ, ◌+◌, ◌*◌, ◌≤◌, ◌<◌, length, get_or}

-- voucher number a of place i, weight v, comes before voucher number b of place j, weight w: v / a is greater, or as great at a place not higher
pub record Before (v a i w b j : ℕ) : Type 0 where
  pub least : w * a ≤ v * b
  pub tie : w * a ≡ v * b → i ≤ j

-- "For any two partners, the first holding at least one, the first's weight / held is not less than the second's weight / (held + 1)", and
-- where they are equal the first has the lower place
pub record Balanced (ws held : List ℕ) : Type 0 where
  pub partners : length held ≡ length ws
  pub kept : (i j : ℕ) → i < length ws → j < length ws → 1 ≤ get_or held i 0
      → Before (get_or ws i 0) (get_or held i 0) i (get_or ws j 0) (get_or held j 0 + 1) j
