-- Two answers that a promise allows are equal, and so are the two buffers afterwards. Assumes nothing.
use Rattle.std.specs.Prelude.{Result}
use Rattle.refusal.specs.Rows.{means}
use mathlib.Core.Path.{◌≡◌, sym, ◌∙◌}
use mathlib.Core.List.{List}
use Prim.Native.Nat.{ℕ}
use lib.ListN.{length}
use Rattle.refusal.proofs.OneToOne.{one_said}
use Rattle.currency.specs.declared.Currency.{Currency}
use Rattle.amount.specs.declared.Amount.{Amount}
use Rattle.text.specs.Read.{read_said}
use Rattle.refusal.specs.declared.Refusal.{Refusal}
use Rattle.text.specs.Written.{text_of, write_said, Writes}

pub one_read
    : (currency : Currency) (bytes : List ℕ) (r s : Result Amount Refusal) → means r ≡ read_said currency bytes → means s ≡ read_said currency bytes → r ≡ s
one_read currency bytes r s first second = one_said r s (read_said currency bytes) first second

pub one_write
    : (a : Amount) (out : List ℕ) (r s : Result ℕ Refusal) (o p : List ℕ)
    → Writes (text_of a) (write_said a (length out)) out r o → Writes (text_of a) (write_said a (length out)) out s p → (r ≡ s) × (o ≡ p)
one_write a out r s o p first second = (one_said r s (write_said a (length out)) first.answer second.answer, first.left ∙ sym second.left)
