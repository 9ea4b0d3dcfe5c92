-- Document 02, Ask 5: "Given gross, rate and mode, find the net whose net-to-gross answer is exactly that gross, or refuse with 15. Refusal 15 is given
-- exactly when no net within L has that gross; the statement of "no net" may not run our search." Cited by `net_for_gross`. Assumes nothing.
use Rattle.std.specs.Prelude.{◌≡◌, ℕ}
use Rattle.refusal.specs.Rows.{Said, gives, refuses, first_row}
use Rattle.amount.specs.declared.Amount.{Amount}
use Rattle.tax.specs.declared.Split.{Split}
use Rattle.tax.specs.Tax.{rows_taken, from_net_said}

-- a net has a gross: "net-to-gross answer is exactly that gross", the amount with its currency and scale
pub record HasGross (rate mode : ℕ) (net gross : Amount) : Type 0 where
  pub split : Split
  pub said : from_net_said net rate mode ≡ gives split
  pub is : split.gross ≡ gross

-- "no net within L has that gross": an answer that is given is of a net within L
abbrev pub NoneHas : (rate mode : ℕ) → Amount → Type 0
NoneHas rate mode gross = (net : Amount) → HasGross rate mode net gross → ⊥

-- rows 1, 2, 3, 4 and 6 at what the call takes say this of it
abbrev pub Taken : Amount → (rate mode : ℕ) → Said Amount → Type 0
Taken gross rate mode said = first_row (rows_taken gross rate mode) (gives gross) ≡ said

-- what the call says: the first of these rows that holds, else the price of a net that has the gross, else 15
pub data NetSaid (gross : Amount) (rate mode : ℕ) : Said Split → Type 0 where
  refused : (number blamed : ℕ) → Taken gross rate mode (refuses number blamed) → NetSaid gross rate mode (refuses number blamed)
  found : Taken gross rate mode (gives gross) → (net : Amount) (has : HasGross rate mode net gross) → NetSaid gross rate mode (gives has.split)
  none : Taken gross rate mode (gives gross) → NoneHas rate mode gross → NetSaid gross rate mode (refuses 15 0)
