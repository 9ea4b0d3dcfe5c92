-- One cycle in a table, and what the functions that make and read it ask. Cited by `fill_cycle` and by whoever reads a row.
-- Assumes nothing.
use Rattle.std.specs.Prelude.{◌≡◌, false, cond, List, ℕ, ◌≤◌, ◌<◌, leb, length, get_or}
use Rattle.whole.specs.Sums.{sum_of}
use Rattle.whole.specs.Lists.{filled}
use Rattle.units.specs.Rule.{totals}
use Rattle.units.specs.Mask.{mask}
use Rattle.running.specs.Limits.{weighed}
pub use Rattle.running.specs.Limits.{Weighed}
use Rattle.running.specs.Running.{Dues}

-- the table with a row for each net total below W in its first W places: who is one above its share rounded down. It stays as it was
-- where the weights break their rule, and where it has fewer places than W.
unfoldable pub cycle_in : (ws table : List ℕ) → List ℕ
cycle_in ws table = cond (cond (weighed ws) (leb (sum_of ws) (length table)) false) (filled 0 (mask ws) (sum_of ws) table) table

-- the table has a row for each net total below W
pub record Cycled (ws : List ℕ) (sum : ℕ) (table : List ℕ) : Type 0 where
  pub fits : sum ≤ length table
  pub rows : (n : ℕ) → n < sum → get_or table n 0 ≡ mask ws n

-- the walk over the units after unit n: what each place holds, and the due number of its next unit
pub record Walks (ws : List ℕ) (sum n : ℕ) (held dues : List ℕ) : Type 0 where
  pub units : held ≡ totals ws n
  pub next : Dues ws sum held dues
