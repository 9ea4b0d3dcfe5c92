-- The rows of `read` and of `write` stand in the order in which they are asked, so that number n is given exactly when a row of n holds and no row that
-- stands before it does. Assumes nothing.
use mathlib.Core.Path.{◌≡◌}
use mathlib.Core.List.{List}
use mathlib.Core.Logic.{◌↔◌}
use Prim.Native.Nat.{ℕ}
use lib.ListN.{length}
use Rattle.refusal.specs.Rows.{refuses, Holds}
use Rattle.refusal.proofs.ExactlyWhen.{Given, NoneBelow, exactly_when}
use Rattle.currency.specs.declared.Currency.{Currency}
use Rattle.amount.specs.declared.Amount.{Amount}
use Rattle.text.specs.Read.{negative_in, start_in, end_in, number_at, scale_at, amount_in, read_rows, read_said}
use Rattle.text.specs.Written.{text_of, write_rows, write_said}

pub read_exactly_when : (currency : Currency) (bytes : List ℕ) (n : ℕ)
    → ((blamed : ℕ) × (read_said currency bytes ≡ refuses n blamed)) ↔ (Holds n (read_rows currency bytes) × NoneBelow n (read_rows currency bytes))
unfolding read_said Given
read_exactly_when currency bytes n =
    exactly_when (amount_in currency (negative_in bytes) (scale_at (length bytes) (end_in bytes)) (number_at bytes (start_in bytes) (end_in bytes))) n (read_rows currency bytes) tt

pub write_exactly_when : (a : Amount) (room n : ℕ)
    → ((blamed : ℕ) × (write_said a room ≡ refuses n blamed)) ↔ (Holds n (write_rows a room) × NoneBelow n (write_rows a room))
unfolding write_said Given
write_exactly_when a room n = exactly_when (length (text_of a)) n (write_rows a room) tt
