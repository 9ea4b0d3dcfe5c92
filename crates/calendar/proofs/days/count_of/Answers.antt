-- Basis 2 counts by the American rule, basis 3 by the European, and every other the actual days. Assumes nothing.
use mathlib.Core.Path.{◌≡◌, refl, ◌∙◌, ap, ap₂}
use mathlib.Core.Logic.{◌⊎◌, inl, inr}
use Prim.Native.Nat.{ℕ, ◌-◌}
use Rattle.calendar.specs.declared.Date.{Date}
use Rattle.calendar.specs.declared.Basis.{Basis}
use Rattle.calendar.specs.declared.Basis.TheVariants.{Actual360, Actual365}
use Rattle.calendar.specs.DayCount.{actual, clipped, american, difference, basis_of}
use Rattle.calendar.specs.Numbered.{number_of}
use Rattle.calendar.proofs.days.count_of.Goals as goal

pub returns-in-American : goal.returns-in-American
returns-in-American c =
    let a = c.args in
    rw c.in-American.is
    (c.thirty_days.ensures
    ∙ ap (difference a.start a.end (clipped a.start.day))
    (c.american_day.ensures ∙ ap (λ (x : ℕ). american x a.end.day) c.clip.ensures))

-- both bases of actual days count them
actual_days : (b : Basis) → (b ≡ Actual360) ⊎ (b ≡ Actual365) → (start end : Date) → actual start end ≡ (basis_of (number_of b)).count start end
actual_days b (inl e) start end = rw e refl
actual_days b (inr e) start end = rw e refl

pub returns-in-Actual360 : goal.returns-in-Actual360
unfolding actual
returns-in-Actual360 c =
    let a = c.args in
    ap₂ ◌-◌ c.requires.second c.requires.first ∙ actual_days a.basis c.in-Actual360.is a.start a.end
