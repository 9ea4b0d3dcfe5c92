-- Two answers that the promise of `compound` allows are equal, and so are the two lists afterwards. Assumes nothing.
use Rattle.std.specs.Prelude.{Result, ⊤}
use mathlib.Core.Path.{◌≡◌, sym, ◌∙◌}
use mathlib.Core.List.{List}
use Prim.Native.Nat.{ℕ}
use lib.IntN.{ℤ}
use lib.ListN.{length}
use Rattle.refusal.specs.Rows.{means_outcome}
use Rattle.refusal.proofs.OneToOne.{same_outcome}
use Rattle.whole.specs.Whole.{magnitude_of}
use Rattle.amount.specs.declared.Amount.{Amount}
use Rattle.refusal.specs.declared.Refusal.{Refusal}
use Rattle.compound.specs.Table.{row_count, table_said, list_after}

module _ (a : Amount) (rate periods : ℕ) (out : List ℤ) where
  -- what the promise says of an answer and the list afterwards
  abbrev pub Promised : Result ⊤ Refusal → List ℤ → Type 0
  Promised r after =
      (means_outcome r (row_count periods) ≡ table_said a rate periods (length out))
      × (after ≡ list_after (magnitude_of a.coefficient) rate (table_said a rate periods (length out)) out)

  pub one_compound : (r s : Result ⊤ Refusal) (o p : List ℤ) → Promised r o → Promised s p → (r ≡ s) × (o ≡ p)
  one_compound r s o p first second =
      (same_outcome r s (row_count periods) (row_count periods) (first.0 ∙ sym second.0), first.1 ∙ sym second.1)
