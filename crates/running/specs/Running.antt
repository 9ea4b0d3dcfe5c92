-- What the functions behind the running totals ask and say of their lists. Cited by src/full.rt and src/window.rt.
-- Assumes nothing.
use Rattle.std.specs.Prelude.{◌≡◌, List, ℕ, zero, suc, ◌+◌, ◌-◌, ◌*◌, ◌/◌, ◌≤◌, ◌<◌, length, get_or, replicate}
use Rattle.whole.specs.Sums.{sum_of}
use Rattle.units.specs.Rule.{due, totals}
use Rattle.units.specs.Window.{full_by, mass, ahead_after}
use Rattle.units.specs.Calendar.{bump, calendar}
use Rattle.running.specs.Limits.{partners, weight_sum}

-- the numbers of a sum over the places stay small
pub record Small (ws : List ℕ) (sum : ℕ) (full : List ℕ) : Type 0 where
  pub weigh : (i : ℕ) → i < partners → get_or ws i 0 ≤ weight_sum
  pub most : sum ≤ weight_sum
  pub units : (i : ℕ) → i < partners → get_or full i 0 ≤ weight_sum

-- a window may start after unit u: nobody is ahead then
pub record Starts (ws : List ℕ) (n u : ℕ) : Type 0 where
  pub before : u ≤ n
  pub light : mass ws n u < sum_of ws

-- each place's due number after its full units
abbrev pub Dues : (ws : List ℕ) (sum : ℕ) (full dues : List ℕ) → Type 0
Dues ws sum full dues = (i : ℕ) → i < partners → get_or dues i 0 ≡ due sum (get_or ws i 0) (get_or full i 0)

-- c units of a place of this weight, from unit number first + 1 on, laid into the slots of a window from u
unfoldable pub fill_by : (weight sum u first : ℕ) (slots : List ℕ) (c : ℕ) → List ℕ
fill_by weight sum u first slots zero = slots
fill_by weight sum u first slots (suc c) = bump (fill_by weight sum u first slots c) ((first + c) * sum / weight - u)

-- the units from first + 1 to `full` have their slots, and room in them
pub record Laying (weight sum u first full : ℕ) (slots : List ℕ) : Type 0 where
  pub some : 1 ≤ sum
  pub most : sum ≤ weight_sum
  pub weighs : 1 ≤ weight
  pub heavy : weight ≤ weight_sum
  pub units : first ≤ full
  pub after : u * weight ≤ first * sum
  pub fits : full * sum ≤ (u + length slots) * weight
  pub room : (j : ℕ) → get_or slots j 0 + full ≤ weight_sum

-- the slots hold the full units of the window
pub record Listed (ws : List ℕ) (n u : ℕ) (slots : List ℕ) : Type 0 where
  pub fits : n ≤ u + length slots
  pub laid : slots ≡ calendar ws n u (length slots)

-- empty slots for the units of the window
pub record Empty (n u : ℕ) (slots : List ℕ) : Type 0 where
  pub fits : n ≤ u + length slots
  pub empty : slots ≡ replicate (length slots) 0

-- who is ahead at n, 1 or 0 at each place, by the units from u on
abbrev pub Ahead : (ws : List ℕ) (n u : ℕ) (ahead : List ℕ) → Type 0
Ahead ws n u ahead = ahead ≡ ahead_after (full_by ws n) ws n u (n - u)

-- who is ahead has one more than its full units, the others have those
abbrev pub OneMore : (ws : List ℕ) (n : ℕ) (full ahead : List ℕ) → Type 0
OneMore ws n full ahead = (i : ℕ) → i < partners → get_or (totals ws n) i 0 ≡ get_or full i 0 + get_or ahead i 0
