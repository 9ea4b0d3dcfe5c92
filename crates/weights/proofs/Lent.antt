-- From a check to the answer of a call with a lent output: a refused check leaves the output as it stood, what passed puts the values in
-- front; and two answers that such a promise allows are equal, with the two outputs. Assumes nothing.
use Rattle.std.specs.Prelude.{Result, Ok, Err, ⊤}
use mathlib.Core.Path.{◌≡◌, sym, ◌∙◌}
use mathlib.Core.List.{List, ◌++◌}
use lib.ListN.{length, drop}
use Rattle.refusal.specs.declared.Refusal.{Refusal}
use Rattle.refusal.specs.Number.{number_of, blamed_of}
use Rattle.refusal.specs.Rows.{Said, gives, refuses, Row, first_row, check_of, means_outcome}
use Rattle.refusal.proofs.Check.{passed, refused}
use Rattle.refusal.proofs.OneToOne.{same_outcome}
use Rattle.weights.specs.Lent.{out_after}

module _ {A : Type 0} (rows : List Row) (values out : List A) where
  -- a refusal leaves every place as it stood
  pub lent_refused : (r : Refusal) → check_of rows ≡ Err r
      → (refuses (number_of r) (blamed_of r) ≡ first_row rows (gives values)) × (out ≡ out_after (first_row rows (gives values)) out)
  unfolding out_after
  lent_refused r e = let said = refused (gives values) rows r e in (sym said, rw said)

  -- the values stand in front, the other places as they stood
  pub lent_passed : (after : List A) → check_of rows ≡ Ok tt → after ≡ values ++ drop (length values) out
      → (gives values ≡ first_row rows (gives values)) × (after ≡ out_after (first_row rows (gives values)) out)
  unfolding out_after
  lent_passed after e put = let said = passed (gives values) rows e in (sym said, rw said put)

-- the promise of such a call leaves one answer and one output
pub one_lent : {A : Type 0} (values out : List A) (said : Said (List A)) (r s : Result ⊤ Refusal) (o p : List A)
    → means_outcome r values ≡ said → o ≡ out_after said out → means_outcome s values ≡ said → p ≡ out_after said out → (r ≡ s) × (o ≡ p)
one_lent values out said r s o p says puts says' puts' = (same_outcome r s values values (says ∙ sym says'), puts ∙ sym puts')
