-- What the promise of a day count leaves open: nothing. Two answers that it allows for the same arguments are equal, since an answer is
-- known by what it says. Assumes nothing.
use Rattle.std.specs.Prelude.{Result}
use Rattle.refusal.specs.Rows.{means}
use mathlib.Core.Path.{◌≡◌, sym, ◌∙◌}
use Prim.Native.Nat.{ℕ}
use Rattle.refusal.proofs.OneToOne.{same_answer}
use Rattle.calendar.specs.declared.Date.{Date}
use Rattle.refusal.specs.declared.Refusal.{Refusal}
use Rattle.calendar.specs.DaysSaid.{days_said}

pub one_day_count : (basis : ℕ) (start end : Date) (r s : Result ℕ Refusal) → means r ≡ days_said basis start end
    → means s ≡ days_said basis start end → r ≡ s
one_day_count basis start end r s p q = same_answer r s (p ∙ sym q)
