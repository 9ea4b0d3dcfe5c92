-- One cycle in a table, for a run of postings: row n, for n below W, is one number whose bit i is 1 where place i's total at n is one
-- above its share rounded down. That the totals come out is in proofs/Mask.antt. Assumes nothing.
use Rattle.std.specs.Prelude.{List, ℕ, zero, suc, ◌+◌, ◌-◌, ◌*◌, ◌^◌, length, get_or}
use Rattle.units.specs.Rule.{totals}
use Rattle.units.specs.Window.{lo, ahead_at}

-- place i's bit at n: its total less its share rounded down
abbrev pub bit_at : (ws : List ℕ) (n i : ℕ) → ℕ
bit_at ws n i = ahead_at ws n n i

-- the bits of the first i places at n, where the places hold so many units
unfoldable pub mask_of : (ws held : List ℕ) (n i : ℕ) → ℕ
mask_of ws held n zero = 0
mask_of ws held n (suc i) = mask_of ws held n i + 2 ^ i * (get_or held i 0 - lo ws n i)

-- row n
unfoldable pub mask : (ws : List ℕ) (n : ℕ) → ℕ
mask ws n = mask_of ws (totals ws n) n (length ws)
