-- The running totals at n by the shares: what a program works with that goes through the units u + 1 to n alone, a window, and
-- starts with nobody ahead. A place's full units are its share of n rounded down, the unit after them is its straddler, and who has
-- taken it is ahead. That the totals come out is in proofs/Window.antt. Assumes nothing.
use Rattle.std.specs.Prelude.{Bool, false, cond, List, ℕ, zero, suc, ◌+◌, ◌-◌, ◌*◌, ◌/◌, min, ltb, eqb, length, get_or, set, replicate}
use Rattle.units.specs.Rule.{sum_of, may_take, due, Taker, nobody, place, best_of, totals}

-- f over the first places, added
unfoldable pub places_sum : (f : ℕ → ℕ) → ℕ → ℕ
places_sum f zero = 0
places_sum f (suc i) = places_sum f i + f i

-- place i's full units: n x w / W rounded down
abbrev pub lo : (ws : List ℕ) (n i : ℕ) → ℕ
lo ws n i = n * get_or ws i 0 / sum_of ws

-- t x w / W rounded up: how many of its units a place may have taken by unit t
unfoldable pub reach : (W t w : ℕ) → ℕ
reach W t w = (t * w + (W - 1)) / W

-- the full units of place i that may have been taken by unit t, and those of all places
abbrev pub full_at : (ws : List ℕ) (n t i : ℕ) → ℕ
full_at ws n t i = min (lo ws n i) (reach (sum_of ws) t (get_or ws i 0))

unfoldable pub full_by : (ws : List ℕ) (n t : ℕ) → ℕ
full_by ws n t = places_sum (full_at ws n t) (length ws)

-- what t x w is above the full units of place i times W, and the same of all places
abbrev pub mass_at : (ws : List ℕ) (n t i : ℕ) → ℕ
mass_at ws n t i = t * get_or ws i 0 - lo ws n i * sum_of ws

unfoldable pub mass : (ws : List ℕ) (n t : ℕ) → ℕ
mass ws n t = places_sum (mass_at ws n t) (length ws)

-- how far place i is ahead after unit t, and how many places are
abbrev pub ahead_at : (ws : List ℕ) (n t i : ℕ) → ℕ
ahead_at ws n t i = get_or (totals ws t) i 0 - lo ws n i

unfoldable pub ahead_by : (ws : List ℕ) (n t : ℕ) → ℕ
ahead_by ws n t = places_sum (ahead_at ws n t) (length ws)

-- place i may take unit t as its straddler: it is not ahead and lo x W < t x w; and its straddler's due number
abbrev pub may_straddle : (ws : List ℕ) (n : ℕ) (ahead : List ℕ) (t : ℕ) → ℕ → Bool
may_straddle ws n ahead t i = cond (eqb (get_or ahead i 0) 0) (may_take (sum_of ws) t (get_or ws i 0) (lo ws n i)) false

abbrev pub due_straddle : (ws : List ℕ) (n : ℕ) → ℕ → ℕ
due_straddle ws n i = due (sum_of ws) (get_or ws i 0) (lo ws n i)

-- the smallest due number of those, ties to the lower place
unfoldable pub straddler : (ws : List ℕ) (n : ℕ) (ahead : List ℕ) (t : ℕ) → Taker
straddler ws n ahead t = best_of (may_straddle ws n ahead t) (due_straddle ws n) (length ws)

-- a place is marked as ahead
abbrev pub mark : Taker → List ℕ → List ℕ
mark nobody ahead = ahead
mark (place p) ahead = set ahead p 1

-- who is ahead after unit s + 1, from who is ahead after unit s: the unit goes to a straddler where s units are all the full ones that
-- may have been taken, `full`, and the straddlers taken
unfoldable pub ahead_next : (ws : List ℕ) (n full : ℕ) (ahead : List ℕ) (s : ℕ) → List ℕ
ahead_next ws n full ahead s = cond (ltb s (full + sum_of ahead)) ahead (mark (straddler ws n ahead (suc s)) ahead)

-- who is ahead after the units u + 1 to u + k, where nobody is after unit u: 1 for each place that is, else 0.
-- `full` says of a unit what `full_by` does.
unfoldable pub ahead_after : (full : ℕ → ℕ) (ws : List ℕ) (n u k : ℕ) → List ℕ
ahead_after full ws n u zero = replicate (length ws) 0
ahead_after full ws n u (suc k) = ahead_next ws n (full (suc (u + k))) (ahead_after full ws n u k) (u + k)
