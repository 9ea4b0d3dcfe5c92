-- A day count refuses with a number exactly when a row of it holds and none of a smaller number does: its rows rise. Assumes nothing.
use mathlib.Core.Path.{◌≡◌}
use mathlib.Core.Logic.{◌↔◌}
use Prim.Native.Nat.{ℕ}
use Rattle.refusal.specs.Rows.{refuses, Holds}
use Rattle.refusal.proofs.ExactlyWhen.{Given, NoneBelow, exactly_when}
use Rattle.calendar.specs.declared.Date.{Date}
use Rattle.calendar.specs.DayCount.{basis_of}
use Rattle.calendar.specs.DaysSaid.{days_rows, days_said}

pub day_count_exactly_when : (basis : ℕ) (start end : Date) (n : ℕ)
    → ((blamed : ℕ) × (days_said basis start end ≡ refuses n blamed))
    ↔ (Holds n (days_rows basis start end) × NoneBelow n (days_rows basis start end))
unfolding days_rows days_said Given
day_count_exactly_when basis start end n = exactly_when ((basis_of basis).count start end) n (days_rows basis start end) tt
