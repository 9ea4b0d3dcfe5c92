-- What the functions below the three calls hand up. No public promise cites it. Assumes nothing.
use Rattle.std.specs.Prelude.{◌≡◌, Bool, ℕ, ◌+◌, Result, Ok, Err}
use Rattle.refusal.specs.Number.{number_of, blamed_of}
use Rattle.refusal.specs.Rows.{gives, refuses}
use Rattle.whole.specs.Whole.{negative, magnitude_of, signed_of}
use Rattle.rounding.specs.Modes.{rule_of}
use Rattle.amount.specs.declared.Amount.{Amount}
use Rattle.tax.specs.declared.Split.{Split}
use Rattle.tax.specs.declared.accepted.Accepted.{Accepted}
use Rattle.refusal.specs.declared.Refusal.{Refusal}
use Rattle.tax.specs.Tax.{like}
use Rattle.tax.specs.NetFor.{Taken}

-- a call that none of the rows 1 to 6 refuses, as the program holds it
pub record Given (a : Amount) (rate mode : ℕ) (x : Accepted) : Type 0 where
  pub taken : Taken a rate mode (gives a)
  pub rules : x.rule ≡ rule_of mode
  pub signs : x.negative ≡ negative a.coefficient
  pub magnitudes : x.m ≡ magnitude_of a.coefficient
  pub rates : x.rate ≡ rate

abbrev pub Accepts : Amount → (rate mode : ℕ) → Result Accepted Refusal → Type 0
Accepts a rate mode (Ok x) = Given a rate mode x
Accepts a rate mode (Err r) = Taken a rate mode (refuses (number_of r) (blamed_of r))

-- a price like an amount, by its sign and the magnitudes of net and tax
unfoldable pub split_of : Amount → (negative : Bool) (net tax : ℕ) → Split
split_of a negative net tax =
    record { net = like a (signed_of negative net); tax = like a (signed_of negative tax); gross = like a (signed_of negative (net + tax)) }
