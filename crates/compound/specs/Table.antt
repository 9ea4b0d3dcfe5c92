-- Document 02, Ask 6, as a call: "Rows go to a lent list, the principal first, one more than periods; 11 if it is short, and places past the rows stay.
-- A negative principal is refusal 10, a rate or a number of periods over its limit is 6. If any row is over L the answer is 13 and no row is
-- written." Cited by `compound`. Assumes nothing.
use Rattle.std.specs.Prelude.{Bool, false, ◌||◌, List, [], ◌∷◌, ◌++◌, ℕ, zero, suc, ◌+◌, ltb, ℤ, pos}
use Rattle.refusal.specs.Rows.{Said, gives, refuses, Row, row, first_row, rate_rows}
use Rattle.refusal.specs.declared.Refusal.TheVariants.{Negative, Room, Limit}
use Rattle.whole.specs.Whole.{negative, magnitude_of}
use Rattle.whole.specs.Lists.{filled}
use Rattle.currency.specs.declared.Currency.{Currency}
use Rattle.amount.specs.declared.Amount.{Amount}
use Rattle.amount.specs.Amounts.{over_l, amount_rows}
use Rattle.balances.specs.Rule.{points, balance_at}

-- "0 to 120 periods"
abbrev pub most_periods : ℕ
most_periods = 120

-- "the principal first, one more than periods"
abbrev pub row_count : (periods : ℕ) → ℕ
row_count periods = periods + 1

-- "any row is over L", of the first so many
unfoldable pub any_over : (principal rate count : ℕ) → Bool
any_over principal rate zero = false
any_over principal rate (suc n) = any_over principal rate n || over_l (balance_at principal rate n)

-- the rows of the table of refusals at what the call takes, behind an amount's: 6 at the rate and at the periods, 10 and 11
abbrev pub period_rows : (periods : ℕ) → (negative : Bool) → (room : ℕ) → List Row
period_rows periods negative room = rate_rows most_periods periods ++ (row Negative negative ∷ row Room (ltb room (row_count periods)) ∷ [])

abbrev pub taken_rows : (scale m : ℕ) → Currency → (negative : Bool) → (rate periods room : ℕ) → List Row
taken_rows scale m currency negative rate periods room =
    amount_rows scale m currency ++ (rate_rows points rate ++ period_rows periods negative room)

-- and 13 at the rows that it makes
abbrev pub made_rows : (principal rate count : ℕ) → List Row
made_rows principal rate count = row Limit (any_over principal rate count) ∷ []

abbrev pub table_rows : Amount → (rate periods room : ℕ) → List Row
table_rows a rate periods room =
    taken_rows a.scale (magnitude_of a.coefficient) a.currency (negative a.coefficient) rate periods room
    ++ made_rows (magnitude_of a.coefficient) rate (row_count periods)

-- so many rows, or the refusal
unfoldable pub table_said : Amount → (rate periods room : ℕ) → Said ℕ
table_said a rate periods room = first_row (table_rows a rate periods room) (gives (row_count periods))

-- the lent list afterwards: the rows in front, and "places past the rows stay"; all of them where the call is refused
unfoldable pub list_after : (principal rate : ℕ) → Said ℕ → List ℤ → List ℤ
list_after principal rate (gives count) out = filled 0 (λ n. pos (balance_at principal rate n)) count out
list_after principal rate (refuses number blamed) out = out
