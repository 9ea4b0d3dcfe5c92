-- The rows of each call stand in the order in which they are asked, so that number n is given exactly when a row of n holds and no row that
-- stands before it does. Assumes nothing.
use mathlib.Core.Path.{◌≡◌}
use mathlib.Core.Logic.{◌↔◌}
use mathlib.Core.List.{List}
use Prim.Native.Nat.{ℕ, ◌+◌}
use lib.IntN.{ℤ}
use lib.ListN.{length}
use Rattle.refusal.specs.Rows.{refuses, Holds}
use Rattle.refusal.proofs.ExactlyWhen.{Given, NoneBelow, exactly_when}
use Rattle.currency.specs.declared.Currency.{Currency}
use Rattle.statement.specs.Files.{file_size}
use Rattle.statement.specs.Writing.{write_rows, reasons_rows, write_said, reasons_said}
use Rattle.statement.specs.Reading.{version_rows, read_rows, summary_of, summary_of_any, read_said, any_rows, any_said}
use Rattle.statement.specs.declared.Version.TheVariants.{Plain, Reasons}

pub write_exactly_when : (currency : Currency) (places : List ℕ) (coefficients : List ℤ) (room start n : ℕ)
    → ((blamed : ℕ) × (write_said currency places coefficients room start ≡ refuses n blamed))
    ↔ (Holds n (write_rows currency places coefficients room start) × NoneBelow n (write_rows currency places coefficients room start))
unfolding write_said write_rows Given
write_exactly_when currency places coefficients room start n =
    exactly_when (start + file_size Plain (length places)) n (write_rows currency places coefficients room start) tt

pub check_exactly_when : (bytes : List ℕ) (n : ℕ)
    → ((blamed : ℕ) × (read_said bytes ≡ refuses n blamed)) ↔ (Holds n (read_rows bytes) × NoneBelow n (read_rows bytes))
unfolding read_said read_rows version_rows Given
check_exactly_when bytes n = exactly_when (summary_of bytes) n (read_rows bytes) tt

pub write_reasons_exactly_when : (currency : Currency) (places reasons : List ℕ) (coefficients : List ℤ) (room start n : ℕ)
    → ((blamed : ℕ) × (reasons_said currency places reasons coefficients room start ≡ refuses n blamed))
    ↔ (Holds n (reasons_rows currency places reasons coefficients room start) × NoneBelow n (reasons_rows currency places reasons coefficients room start))
unfolding reasons_said reasons_rows Given
write_reasons_exactly_when currency places reasons coefficients room start n =
    exactly_when (start + file_size Reasons (length places)) n (reasons_rows currency places reasons coefficients room start) tt

pub check_any_exactly_when : (bytes : List ℕ) (n : ℕ)
    → ((blamed : ℕ) × (any_said bytes ≡ refuses n blamed)) ↔ (Holds n (any_rows bytes) × NoneBelow n (any_rows bytes))
unfolding any_said any_rows version_rows Given
check_any_exactly_when bytes n = exactly_when (summary_of_any bytes) n (any_rows bytes) tt
