-- The full units of a window, each laid down at the unit by which its place may first take it: unit number m + 1 of a place of weight w
-- at unit m x W / w + 1. So the full units that may have been taken need no division in the window: slot k counts those of unit
-- u + k + 1. That they are counted is in proofs/Calendar.antt. Assumes nothing.
use Rattle.std.specs.Prelude.{◌≡◌, cond, List, ℕ, zero, suc, ◌+◌, ◌-◌, ◌*◌, ◌/◌, ◌<◌, eqb, length, get_or, set, replicate}
use Rattle.units.specs.Rule.{sum_of}
use Rattle.units.specs.Window.{places_sum, lo, reach}

-- q and r are the quotient and the remainder of x by w: a program has those of m x W from one m to the next
pub record Divided (x w q r : ℕ) : Type 0 where
  pub whole : q * w + r ≡ x
  pub small : r < w

-- how many of place i's first c units may first be taken by unit t; and of all full units
unfoldable pub lands_at : (ws : List ℕ) (t i c : ℕ) → ℕ
lands_at ws t i zero = 0
lands_at ws t i (suc m) = lands_at ws t i m + cond (eqb (m * sum_of ws / get_or ws i 0 + 1) t) 1 0

unfoldable pub lands_by : (ws : List ℕ) (n t : ℕ) → ℕ
lands_by ws n t = places_sum (λ i. lands_at ws t i (lo ws n i)) (length ws)

-- one more in slot j
abbrev pub bump : List ℕ → ℕ → List ℕ
bump slots j = set slots j (get_or slots j 0 + 1)

-- the sum of the first k slots
abbrev pub slots_sum : List ℕ → ℕ → ℕ
slots_sum slots = places_sum (λ j. get_or slots j 0)

-- place i's first unit that may not have been taken by unit u, counted from 0
abbrev pub first_at : (ws : List ℕ) (u i : ℕ) → ℕ
first_at ws u i = reach (sum_of ws) u (get_or ws i 0)

-- c of place i's units, from that one on, laid into the slots
unfoldable pub fill_place : (ws : List ℕ) (u i : ℕ) (slots : List ℕ) (c : ℕ) → List ℕ
fill_place ws u i slots zero = slots
fill_place ws u i slots (suc c) = bump (fill_place ws u i slots c) ((first_at ws u i + c) * sum_of ws / get_or ws i 0 - u)

-- the first i places' full units laid into the slots
unfoldable pub fill_places : (ws : List ℕ) (n u : ℕ) (slots : List ℕ) (i : ℕ) → List ℕ
fill_places ws n u slots zero = slots
fill_places ws n u slots (suc i) = fill_place ws u i (fill_places ws n u slots i) (lo ws n i - first_at ws u i)

-- all places', into empty slots
unfoldable pub calendar : (ws : List ℕ) (n u size : ℕ) → List ℕ
calendar ws n u size = fill_places ws n u (replicate size 0) (length ws)
