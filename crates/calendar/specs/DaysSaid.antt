-- Document 01, "Refusal numbers", rows 6 (as document 02, Ask 2, has it), 7 and 8 at a day count, and its value.
-- Cited by `day_count` and `interest`. Assumes nothing.
use Rattle.std.specs.Prelude.{◌≡◌, Bool, true, not, List, [], ◌∷◌, ℕ, ◌≤◌, leb, ltb, length}
use Rattle.refusal.specs.Rows.{Said, gives, Row, row, first_row}
use Rattle.refusal.specs.declared.Blamed.TheVariants.{First, Second}
use Rattle.refusal.specs.declared.Refusal.TheVariants.{Rate, Date as BadDate, Days as BadDays}
use Rattle.calendar.specs.declared.Date.{Date}
use Rattle.calendar.specs.Calendar.{exists}
use Rattle.calendar.specs.DayCount.{day_of, bases, basis_of}

abbrev pub date_exists : Date → Bool
date_exists d = exists d.year d.month d.day

-- two dates that exist, the end not before the start: what a day count is asked of
pub record InOrder (start end : Date) : Type 0 where
  pub first : date_exists start ≡ true
  pub second : date_exists end ≡ true
  pub order : day_of start ≤ day_of end

-- "refusal 6 is for a basis over 3": one that the table of bases doesn't have
abbrev pub unknown_basis : ℕ → Bool
unknown_basis basis = leb (length bases) basis

-- "a basis over 3"; "a date doesn't exist", the first before the second; "the end is before the start, or the basis's day
-- count is over 366"
unfoldable pub days_rows : ℕ → (start end : Date) → List Row
days_rows basis start end =
    row Rate (unknown_basis basis)
    ∷ row (BadDate First) (not (date_exists start))
    ∷ row (BadDate Second) (not (date_exists end))
    ∷ row BadDays (ltb (day_of end) (day_of start))
    ∷ row BadDays (ltb 366 ((basis_of basis).count start end))
    ∷ []

unfoldable pub days_said : ℕ → (start end : Date) → Said ℕ
days_said basis start end = first_row (days_rows basis start end) (gives ((basis_of basis).count start end))
