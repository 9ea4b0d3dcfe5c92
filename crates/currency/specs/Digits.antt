-- Document 01, row 2 of the table of refusals, "for conversions and the book, an amount in a known currency isn't at its own digits".
-- Cited by `not_own_digits`. Assumes nothing.
use Rattle.std.specs.Prelude.{Bool, not, ◌&&◌, ℕ, eqb}
use Rattle.currency.specs.declared.Currency.{Currency}
use Rattle.currency.specs.Table.{unknown, line_of}

unfoldable pub not_own_digits : Currency → (scale : ℕ) → Bool
not_own_digits currency scale = not (unknown currency) && not (eqb scale (line_of currency).digits)
