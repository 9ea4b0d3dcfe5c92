-- What the functions below `day_count` hand each other. No public promise cites it. Assumes nothing.
use Rattle.std.specs.Prelude.{◌≡◌, ℕ, ◌≤◌}
use Rattle.calendar.specs.declared.Date.{Date}
use Rattle.calendar.specs.DayCount.{day_of, clipped}
use Rattle.calendar.specs.DaysSaid.{InOrder}

-- two dates in order, with their day numbers
pub record Numbered (start end : Date) (from to : ℕ) : Type 0 where
  pub dates : InOrder start end
  pub first : from ≡ day_of start
  pub second : to ≡ day_of end

-- two dates in order, and a second day that no rule has below the day 31 as 30
pub record Read (start end : Date) (second : ℕ) : Type 0 where
  pub dates : InOrder start end
  pub least : clipped end.day ≤ second
