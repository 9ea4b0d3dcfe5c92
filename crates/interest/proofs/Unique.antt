-- What the promise of an interest leaves open: nothing. Two answers that it allows for the same arguments are equal, since an answer is
-- known by what it says. Assumes nothing.
use Rattle.refusal.proofs.OneToOne.{one_said}
use Rattle.std.specs.Prelude.{Result}
use Rattle.refusal.specs.Rows.{means}
use mathlib.Core.Path.{◌≡◌}
use Prim.Native.Nat.{ℕ}
use Rattle.amount.specs.declared.Amount.{Amount}
use Rattle.calendar.specs.declared.Date.{Date}
use Rattle.refusal.specs.declared.Refusal.{Refusal}
use Rattle.interest.specs.Interest.{interest_said}

pub one_interest : (a : Amount) (rate basis : ℕ) (start end : Date) (mode : ℕ) (r s : Result Amount Refusal)
    → means r ≡ interest_said a rate basis start end mode → means s ≡ interest_said a rate basis start end mode → r ≡ s
one_interest a rate basis start end mode r s = one_said r s (interest_said a rate basis start end mode)
