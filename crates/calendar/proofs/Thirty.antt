-- "30/360" by either rule: for existing dates in order nothing is cut off the difference, so that it is never negative, and equal dates
-- count 0. The day 31 read as 30 grows with the day, 30 at most is what a month is counted, and neither rule has the second day below
-- that. Assumes nothing.
use mathlib.Core.Path.{◌≡◌, refl, ap}
use Prim.Native.Nat.{ℕ, ◌+◌, ◌*◌, ◌≤◌}
use native.Mathlib.Decide.{ℕ_discrete}
use native.Mathlib.Omega.{arith}
use borrow.Author.Tests.{eq-eqb, ne_eqb}
use Rattle.calendar.specs.declared.Date.{Date}
use Rattle.calendar.specs.CalendarOrder.{Earlier, by_year, by_month, by_day}
use Rattle.calendar.specs.DayCount.{clipped, american, european, difference, thirty}
use Rattle.calendar.specs.DaysSaid.{InOrder}
use Rattle.calendar.proofs.Order.{Dated, dated, Compared, earlier, same, later, compared, earlier_less}

-- a date's place where each month has 30 days, with this day for its own
abbrev pub place : Date → (day : ℕ) → ℕ
place d day = 360 * d.year + 30 * d.month + day

abbrev pub clipped_place : Date → ℕ
clipped_place d = place d (clipped d.day)

earlier_place : (d e : Date) → Dated d → Dated e → Earlier d e → clipped_place d ≤ clipped_place e
earlier_place d e first second (by_year h) = omega arith
earlier_place d e first second (by_month y h) = omega arith
earlier_place d e first second (by_day y m h) = omega arith

pub place_rises : (start end : Date) → InOrder start end → clipped_place start ≤ clipped_place end
place_rises start end h = at (dated start h.first) (dated end h.second) (compared start end)
  where
    at : Dated start → Dated end → Compared start end → clipped_place start ≤ clipped_place end
    at first second (earlier b) = earlier_place start end first second b
    at first second (same s) = omega (arith, ap clipped_place s)
    at first second (later b) = absurd (omega (arith, earlier_less end start second first b, h.order))

-- what a rule for the second day keeps: it is not below the day 31 as 30, and beside the same day it is that
pub record Reads (rule : ℕ → ℕ → ℕ) : Type 0 where
  pub least : (first second : ℕ) → clipped second ≤ rule first second
  pub alike : (day : ℕ) → rule (clipped day) day ≡ clipped day

pub american_reads : Reads american
american_reads =
    record {
      least = λ first second. not_below_lem first second (ℕ_discrete first 30);
      alike = λ day. beside day (ℕ_discrete (clipped day) 30);
    }
  where
    not_below_lem : (first second : ℕ) → Dec (first ≡ 30) → clipped second ≤ american first second
    not_below_lem first second (yes e) = rw (eq-eqb first 30 e) (omega arith)
    not_below_lem first second (no f) = rw (ne_eqb first 30 f) (omega arith)

    beside : (day : ℕ) → Dec (clipped day ≡ 30) → american (clipped day) day ≡ clipped day
    beside day (yes e) = rw (eq-eqb (clipped day) 30 e)
    beside day (no f) = rw (ne_eqb (clipped day) 30 f) (omega arith)

pub european_reads : Reads european
european_reads = record { least = λ first second. omega arith; alike = λ day. refl }

module _ (rule : ℕ → ℕ → ℕ) (reads : Reads rule) where
  -- the count is the whole difference: added to the first place it gives the second
  pub thirty_adds : (start end : Date) → InOrder start end
      → clipped_place start + thirty rule start end ≡ place end (rule (clipped start.day) end.day)
  unfolding difference
  thirty_adds start end h = omega (arith, place_rises start end h, reads.least (clipped start.day) end.day)

  pub thirty_same : (d : Date) → thirty rule d d ≡ 0
  unfolding difference
  thirty_same d = omega (arith, reads.alike d.day)
