-- Document 02, Ask 6: "a table of balances: a principal of 0 or more, a rate per period of 0 to 10,000 basis points, ... each row the row before
-- plus its interest, rounded HALF_EVEN". Cited by `compound`. Assumes nothing.
use Rattle.std.specs.Prelude.{false, ℕ, zero, suc, ◌+◌, ◌*◌}
use Rattle.rounding.specs.declared.Rule.TheVariants.{HalfEven}
use Rattle.rounding.specs.Leaf.{rounded_magnitude}

-- a whole in basis points, which is also the largest rate
abbrev pub points : ℕ
points = 10000

-- a period's "interest, rounded HALF_EVEN": the balance x rate / 10,000
unfoldable pub interest_on : (rate balance : ℕ) → ℕ
interest_on rate balance = rounded_magnitude HalfEven false (balance * rate) points

-- the balance after n periods: the principal, then "each row the row before plus its interest"
unfoldable pub balance_at : (principal rate n : ℕ) → ℕ
balance_at principal rate zero = principal
balance_at principal rate (suc n) = balance_at principal rate n + interest_on rate (balance_at principal rate n)
