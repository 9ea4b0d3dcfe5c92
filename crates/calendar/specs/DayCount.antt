-- Document 01, "Interest over days", and document 02, Ask 2: the day count of each basis between two dates, and its year.
-- Cited by `day_count` and `interest`. Assumes nothing.
use Rattle.std.specs.Prelude.{cond, List, [], ◌∷◌, ℕ, ◌+◌, ◌-◌, ◌*◌, min, eqb, get_or}
use Rattle.calendar.specs.declared.Date.{Date}
use Rattle.calendar.specs.Calendar.{day_number}

-- the day number of a date
abbrev pub day_of : Date → ℕ
day_of d = day_number d.year d.month d.day

-- "actual days"
unfoldable pub actual : (start end : Date) → ℕ
actual start end = day_of end - day_of start

-- a day 31 becomes 30: no day is over 31
abbrev pub clipped : ℕ → ℕ
clipped day = min day 30

-- the American bond basis of the ISDA 2006 definitions: "a first day of 31 becomes 30; a second day of 31 becomes 30 only if the first
-- day is then 30". The second day, beside the first as it then is
abbrev pub american : (first second : ℕ) → ℕ
american first second = cond (eqb first 30) (clipped second) second

-- document 01's rule, the European one: "a day 31 in either date becomes 30"
abbrev pub european : (first second : ℕ) → ℕ
european first second = clipped second

-- "days = 360 x years + 30 x months + days of difference", the two days as a rule has them
unfoldable pub difference : (start end : Date) (first second : ℕ) → ℕ
difference start end first second = (360 * end.year + 30 * end.month + second) - (360 * start.year + 30 * start.month + first)

-- "30/360" by a rule for the second day
abbrev pub thirty : (rule : ℕ → ℕ → ℕ) (start end : Date) → ℕ
thirty rule start end = let first = clipped start.day in difference start end first (rule first end.day)

-- a basis: its day count and its year
pub record Basis : Type 0 where
  pub count : (start end : Date) → ℕ
  pub year : ℕ

-- "Basis 0: actual days / 360. Basis 1: actual days / 365, leap years too"; "Basis 2 takes the American rule, document 01's European one
-- becomes basis 3"
abbrev pub bases : List Basis
bases =
    record { count = actual; year = 360 }
    ∷ record { count = actual; year = 365 }
    ∷ record { count = thirty american; year = 360 }
    ∷ record { count = thirty european; year = 360 }
    ∷ []

abbrev pub basis_of : ℕ → Basis
basis_of basis = get_or bases basis (record { count = actual; year = 360 })
