-- Two answers that a promise allows are equal, and so are the two buffers afterwards. Assumes nothing.
use Rattle.std.specs.Prelude.{Result}
use mathlib.Core.Path.{◌≡◌, sym, ◌∙◌}
use mathlib.Core.List.{List}
use Prim.Native.Nat.{ℕ}
use lib.IntN.{ℤ}
use lib.ListN.{length}
use Rattle.refusal.specs.Rows.{Said, means}
use Rattle.refusal.proofs.OneToOne.{same_answer}
use Rattle.currency.specs.declared.Currency.{Currency}
use Rattle.statement.specs.declared.Summary.{Summary}
use Rattle.statement.specs.declared.SummaryOfAny.{SummaryOfAny}
use Rattle.statement.specs.Files.{file_of, file_bytes}
use Rattle.statement.specs.Writing.{payout_with, payout, write_said, reasons_said, buffer_after}
use Rattle.refusal.specs.declared.Refusal.{Refusal}
use Rattle.statement.specs.Reading.{read_said, any_said}
use Rattle.statement.specs.declared.Version.TheVariants.{Reasons}

-- what the promise of a call that writes says of its answer and the buffer afterwards, by what the call says, its file and the buffer before
abbrev pub Promised : Said ℕ → (start : ℕ) → (file out : List ℕ) → Result ℕ Refusal → List ℕ → Type 0
Promised said start file out r after = (means r ≡ said) × (after ≡ buffer_after said start file out)

one_written : (said : Said ℕ) (start : ℕ) (file out : List ℕ) (r s : Result ℕ Refusal) (o p : List ℕ)
    → Promised said start file out r o → Promised said start file out s p → (r ≡ s) × (o ≡ p)
one_written said start file out r s o p first second = (same_answer r s (first.0 ∙ sym second.0), first.1 ∙ sym second.1)

module _ (currency : Currency) (places : List ℕ) (coefficients : List ℤ) (out : List ℕ) (start : ℕ) where
  abbrev pub Wrote : Result ℕ Refusal → List ℕ → Type 0
  Wrote = Promised (write_said currency places coefficients (length out) start) start (file_bytes (payout currency places coefficients) (length places)) out

  pub one_write : (r s : Result ℕ Refusal) (o p : List ℕ) → Wrote r o → Wrote s p → (r ≡ s) × (o ≡ p)
  one_write = one_written (write_said currency places coefficients (length out) start) start (file_bytes (payout currency places coefficients) (length places)) out

module _ (currency : Currency) (places reasons : List ℕ) (coefficients : List ℤ) (out : List ℕ) (start : ℕ) where
  abbrev pub WroteReasons : Result ℕ Refusal → List ℕ → Type 0
  WroteReasons =
      Promised (reasons_said currency places reasons coefficients (length out) start) start (file_of Reasons (payout_with currency places reasons coefficients) (length places)) out

  pub one_write_reasons : (r s : Result ℕ Refusal) (o p : List ℕ) → WroteReasons r o → WroteReasons s p → (r ≡ s) × (o ≡ p)
  one_write_reasons =
      one_written (reasons_said currency places reasons coefficients (length out) start) start (file_of Reasons (payout_with currency places reasons coefficients) (length places)) out

pub one_check : (bytes : List ℕ) (r s : Result Summary Refusal) → means r ≡ read_said bytes → means s ≡ read_said bytes → r ≡ s
one_check bytes r s first second = same_answer r s (first ∙ sym second)

pub one_check_any : (bytes : List ℕ) (r s : Result SummaryOfAny Refusal) → means r ≡ any_said bytes → means s ≡ any_said bytes → r ≡ s
one_check_any bytes r s first second = same_answer r s (first ∙ sym second)
