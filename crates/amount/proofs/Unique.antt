-- What a promise says leaves one answer: what an answer means tells it from every other, so two answers that a promise allows for the same
-- arguments are equal. A promise that is itself an equation `r ≡ e` leaves e. Assumes nothing.
use Rattle.std.specs.Prelude.{◌≡◌, ℕ, Result}
use Rattle.refusal.specs.Rows.{means}
use Rattle.refusal.proofs.OneToOne.{one_said}
use Rattle.std.specs.declared.cmp.Ordering.{Ordering}
use Rattle.amount.specs.declared.Amount.{Amount}
use Rattle.amount.specs.Amounts.{limited}
use Rattle.amount.specs.Sum.{sum_said, order_said, negate_said}
use Rattle.refusal.specs.declared.Refusal.{Refusal}
use Rattle.amount.specs.Rescaling.{rescale_said}

module _ (r s : Result Amount Refusal) where
  pub one_sum : (a b : Amount) → means r ≡ sum_said a b → means s ≡ sum_said a b → r ≡ s
  one_sum a b = one_said r s (sum_said a b)

  pub one_negate : (a : Amount) → means r ≡ negate_said a → means s ≡ negate_said a → r ≡ s
  one_negate a = one_said r s (negate_said a)

  pub one_rescale : (a : Amount) (scale mode : ℕ)
      → means r ≡ rescale_said a scale mode → means s ≡ rescale_said a scale mode → r ≡ s
  one_rescale a scale mode = one_said r s (rescale_said a scale mode)

  pub one_within : (a : Amount) → means r ≡ limited a.coefficient a → means s ≡ limited a.coefficient a → r ≡ s
  one_within a = one_said r s (limited a.coefficient a)

pub one_order : (r s : Result Ordering Refusal) (a b : Amount) → means r ≡ order_said a b → means s ≡ order_said a b → r ≡ s
one_order r s a b = one_said r s (order_said a b)
