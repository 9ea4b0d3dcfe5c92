-- Document 02, Ask 12, as a call: "up to 10,000 whole vouchers over 1 to 64 weights, sum 1 to 1,000,000 (else 9)", "Over 10,000 vouchers: 6; output
-- too short: 11". Cited by `vouchers`. Assumes nothing.
use Rattle.std.specs.Prelude.{List, ◌++◌, ℕ}
use Rattle.refusal.specs.Rows.{Said, gives, Row, first_row, rate_rows}
use Rattle.weights.specs.Weights.{list_rows}
use Rattle.average.specs.Rule.{vouchers_of}

-- "up to 10,000 whole vouchers"
abbrev pub most_vouchers : ℕ
most_vouchers = 10000

-- row 6 at the number of vouchers, then those of the weights and the lent output
abbrev pub voucher_rows : ℕ → List ℕ → ℕ → List Row
voucher_rows count ws room = rate_rows most_vouchers count ++ list_rows ws room

-- the vouchers of each weight, or the refusal
unfoldable pub vouchers_said : ℕ → List ℕ → ℕ → Said (List ℕ)
vouchers_said count ws room = first_row (voucher_rows count ws room) (gives (vouchers_of count ws))
