-- There is no interest between equal dates and none at rate 0: the product is 0, which every rule rounds to 0. Assumes nothing.
use mathlib.Core.Path.{◌≡◌, ◌∙◌, ap}
use Prim.Native.Nat.{ℕ, ◌*◌}
use native.Mathlib.Omega.{arith}
use lib.IntN.{ℤ, pos}
use Rattle.refusal.specs.Rows.{Said, gives}
use Rattle.whole.specs.Whole.{negative, magnitude_of, signed_of}
use Rattle.whole.proofs.Laws.{signed_zero_lem}
use Rattle.rounding.specs.declared.Rule.{Rule}
use Rattle.rounding.specs.Leaf.{rounded_magnitude}
use Rattle.rounding.proofs.Value.{zero_rounds}
use Rattle.amount.specs.declared.Amount.{Amount}
use Rattle.amount.specs.Amounts.{limited}
use Rattle.calendar.specs.declared.Date.{Date}
use Rattle.calendar.specs.DayCount.{basis_of}
use Rattle.interest.specs.Interest.{interest_of, interest_made}
use Rattle.interest.specs.Accrual.{accrued_to}
use Rattle.interest.proofs.Accrued.{by_parts}
use Rattle.calendar.proofs.Bases.{equal_dates}

no_product : (rule : Rule) (n : ℤ) (rate basis : ℕ) (start end : Date)
    → magnitude_of n * (rate * (basis_of basis).count start end) ≡ 0 → interest_of rule n rate basis start end ≡ pos 0
unfolding accrued_to
no_product rule n rate basis start end none =
    let d = 10000 * (basis_of basis).year in
    by_parts rule n rate basis start end
    ∙ ap (λ (x : ℕ). signed_of (negative n) (rounded_magnitude rule (negative n) x d)) none
    ∙ ap (signed_of (negative n)) (zero_rounds rule (negative n) d)
    ∙ signed_zero_lem (negative n)

pub none_on_equal_dates : (rule : Rule) (n : ℤ) (rate basis : ℕ) (d : Date) → interest_of rule n rate basis d d ≡ pos 0
none_on_equal_dates rule n rate basis d =
    no_product rule n rate basis d d (ap (λ (x : ℕ). magnitude_of n * (rate * x)) (equal_dates basis d) ∙ omega arith)

pub none_at_rate_0 : (rule : Rule) (n : ℤ) (basis : ℕ) (start end : Date) → interest_of rule n 0 basis start end ≡ pos 0
none_at_rate_0 rule n basis start end = no_product rule n 0 basis start end (omega arith)

-- so what is made is the amount 0, with nothing over L
abbrev pub nothing : Amount → Said Amount
nothing a = gives (record { currency = a.currency; scale = a.scale; coefficient = pos 0 })

module _ (rule : Rule) (a : Amount) where
  abbrev like : ℤ → Said Amount
  like n = limited n (record { currency = a.currency; scale = a.scale; coefficient = n })

  pub nothing_on_equal_dates : (rate basis : ℕ) (d : Date) → interest_made rule a rate basis d d ≡ nothing a
  nothing_on_equal_dates rate basis d = ap like (none_on_equal_dates rule a.coefficient rate basis d)

  pub nothing_at_rate_0 : (basis : ℕ) (start end : Date) → interest_made rule a 0 basis start end ≡ nothing a
  nothing_at_rate_0 basis start end = ap like (none_at_rate_0 rule a.coefficient basis start end)
