-- Document 01, "One-off sharing by largest remainder", as a call: the rows of a sharing, and the shares of an amount or the refusal.
-- Cited by `share`. Assumes nothing.
use Rattle.std.specs.Prelude.{List, ◌++◌, ℕ, ℤ}
use Rattle.refusal.specs.Rows.{Said, gives, Row, first_row}
use Rattle.whole.specs.Whole.{magnitude_of}
use Rattle.amount.specs.declared.Amount.{Amount}
use Rattle.amount.specs.Amounts.{amount_rows}
use Rattle.weights.specs.Weights.{list_rows}
use Rattle.remainder.specs.Rule.{signed_shares}

-- an amount's rows, then those of the weights and the lent output
abbrev pub share_rows : Amount → List ℕ → ℕ → List Row
share_rows a ws room = amount_rows a.scale (magnitude_of a.coefficient) a.currency ++ list_rows ws room

-- the shares of an amount, or the refusal
unfoldable pub shared_said : Amount → List ℕ → ℕ → Said (List ℤ)
shared_said a ws room = first_row (share_rows a ws room) (gives (signed_shares a.coefficient ws))
