-- The American rule and the European one differ exactly where the second day is 31 and the first day is below 30, and then by one day:
-- anywhere else the second day is no 31, or both read it as 30. Assumes nothing.
use mathlib.Core.Path.{◌≡◌, refl, ap}
use mathlib.Core.Bool.{Bool, true, false, cond}
use mathlib.Core.Logic.{◌↔◌}
use Prim.Native.Nat.{ℕ, ◌+◌, ◌≤◌, ◌<◌}
use native.Mathlib.Decide.{ℕ_discrete, dec_lt}
use native.Mathlib.Omega.{arith}
use lib.Dec.{eqb}
use borrow.Author.Tests.{eq-eqb, ne_eqb}
use Rattle.calendar.specs.declared.Date.{Date}
use Rattle.calendar.specs.DayCount.{clipped, american, european, difference, thirty}
use Rattle.calendar.specs.DaysSaid.{InOrder}
use Rattle.calendar.proofs.Months.{days_31}
use Rattle.calendar.proofs.Order.{Dated, dated}
use Rattle.calendar.proofs.Thirty.{place_rises}

-- where the rules part
abbrev pub Parts : (start end : Date) → Type 0
Parts start end = (end.day ≡ 31) × (start.day < 30)

no_31 : (b : Bool) (day : ℕ) → day ≤ 30 → cond b (clipped day) day ≡ clipped day
no_31 true day h = refl
no_31 false day h = omega arith

module _ (start end : Date) (dates : InOrder start end) where
  pub by_one_day : Parts start end → thirty american start end ≡ thirty european start end + 1
  unfolding difference
  by_one_day (last, below) = rw (ne_eqb (clipped start.day) 30 (omega arith)) (omega (arith, place_rises start end dates))

  end_day : end.day ≤ 31
  end_day =
      let h : Dated end = dated end dates.second in
      omega (arith, days_31 end.year end.month h.month_from h.month_to)

  pub same_else : (Parts start end → ⊥) → thirty american start end ≡ thirty european start end
  same_else apart = at (ℕ_discrete end.day 31)
    where
      at : Dec (end.day ≡ 31) → thirty american start end ≡ thirty european start end
      at (yes last) =
          let most : start.day < 30 → ⊥ = λ below. apart (last, below) in
          rw (eq-eqb (clipped start.day) 30 (omega arith))
      at (no other) =
          ap (difference start end (clipped start.day)) (no_31 (eqb (clipped start.day) 30) end.day (omega (arith, end_day)))

  pub differ_exactly_when : (thirty american start end ≡ thirty european start end → ⊥) ↔ Parts start end
  differ_exactly_when = (λ differ. at differ (ℕ_discrete end.day 31) (dec_lt start.day 30), λ apart e. omega (arith, by_one_day apart))
    where
      at : (thirty american start end ≡ thirty european start end → ⊥) → Dec (end.day ≡ 31) → Dec (start.day < 30) → Parts start end
      at differ (yes last) (yes below) = (last, below)
      at differ (yes last) (no f) = absurd (differ (same_else (λ apart. f apart.1)))
      at differ (no f) below = absurd (differ (same_else (λ apart. f apart.0)))
