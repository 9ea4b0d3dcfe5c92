-- What C is answered for a gross: the flattened answer of the only thing that may be said of it. Cited by `mkb_net_for`. Assumes nothing.
use Rattle.refusal.specs.Rows.{means}
use Rattle.std.specs.Prelude.{◌≡◌, ℤ, Result}
use Rattle.tax.specs.NetFor.{NetSaid}
use Rattle.flat.specs.declared.MkbAmount.{MkbAmount}
use Rattle.flat.specs.declared.MkbSplit.{MkbSplit}
use Rattle.flat.specs.Given.{passed8, passed32, amount_from}
use Rattle.tax.specs.declared.Split.{Split}
use Rattle.refusal.specs.declared.Refusal.{Refusal}
use Rattle.flat.specs.Answers.{split_of}

pub record NetAnswer (gross : MkbAmount) (rate mode : ℤ) (r : MkbSplit) : Type 0 where
  pub answer : Result Split Refusal
  pub said : NetSaid (amount_from gross) (passed32 rate) (passed8 mode) (means answer)
  pub is : r ≡ split_of (means answer)
