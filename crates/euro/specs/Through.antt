-- Every exchange as one through the euro: what the functions below `convert` hand each other. No public promise cites it. Assumes nothing.
use Rattle.std.specs.Prelude.{cond, ℕ, ◌+◌, ◌*◌, ◌^◌, ℤ}
use Rattle.currency.specs.declared.Currency.{Currency}
use Rattle.currency.specs.declared.Line.{Line}
use Rattle.currency.specs.Table.{line_of, same}
use Rattle.currency.specs.Names.{EUR}
use Rattle.euro.specs.Steps.{to_euro, from_euro, cents}
use Rattle.euro.specs.declared.conversion.Rate.{Rate}

-- a rate by the two factors of a step
abbrev pub rate_at : Line → (decimals : ℕ) → Rate
rate_at l decimals = record { unit = l.figures * 10 ^ l.digits; parts = 10 ^ (l.places + decimals) }

-- the decimals of the number in euro: cents where one side is the euro
abbrev pub decimals_of : (decimals : ℕ) → (from to : Currency) → ℕ
decimals_of decimals from to = cond (same from EUR) cents (cond (same to EUR) cents decimals)

-- the number in euro at so many decimals, and out of it
abbrev pub into_euro : (decimals : ℕ) → Currency → ℤ → ℤ
into_euro decimals from n = cond (same from EUR) n (to_euro (line_of from) decimals n)

abbrev pub out_of_euro : (decimals : ℕ) → Currency → ℤ → ℤ
out_of_euro decimals to n = cond (same to EUR) n (from_euro (line_of to) decimals n)
