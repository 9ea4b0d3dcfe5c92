-- From the check and the rows to the answer of `compound`: a refusal leaves the list as it stood, else the rows stand in front. Assumes nothing.
use Rattle.std.specs.Prelude.{Result, Ok, Err, ⊤}
use mathlib.Core.Path.{◌≡◌, refl, sym, ◌∙◌, ap}
use mathlib.Core.Bool.{true, false}
use mathlib.Core.List.{List, [], ◌∷◌}
use Prim.Native.Nat.{ℕ}
use lib.IntN.{ℤ}
use lib.ListN.{length}
use Rattle.refusal.specs.declared.Refusal.{Refusal}
use Rattle.refusal.specs.Rows.{Said, gives, Row, row, first_row, check_of, means_outcome}
use Rattle.refusal.proofs.Joined.{front_refused, front_passed}
use Rattle.whole.specs.Whole.{negative, magnitude_of}
use Rattle.amount.specs.declared.Amount.{Amount}
use Rattle.compound.specs.Table.{row_count, taken_rows, made_rows, table_rows, table_said, list_after}
use Rattle.compound.specs.Parts.{Writes}

outcome_said : {A : Type 0} (value : A) (rows : List Row) → means_outcome (check_of rows) value ≡ first_row rows (gives value)
outcome_said value [] = refl
outcome_said value (row r true ∷ rows) = refl
outcome_said value (row r false ∷ rows) = outcome_said value rows

module _ (a : Amount) (rate periods : ℕ) (out : List ℤ) where
  abbrev principal : ℕ
  principal = magnitude_of a.coefficient

  abbrev pub taken : List Row
  taken = taken_rows a.scale principal a.currency (negative a.coefficient) rate periods (length out)

  abbrev pub Answers : Result ⊤ Refusal → List ℤ → Type 0
  Answers r after =
      (means_outcome r (row_count periods) ≡ table_said a rate periods (length out)) × (after ≡ list_after principal rate (table_said a rate periods (length out)) out)

  answers : (r : Result ⊤ Refusal) (after : List ℤ) → r ≡ check_of (table_rows a rate periods (length out))
      → after ≡ list_after principal rate (means_outcome r (row_count periods)) out → Answers r after
  unfolding table_said
  answers r after is put =
      let same = ap (λ (x : Result ⊤ Refusal). means_outcome x (row_count periods)) is ∙ outcome_said (row_count periods) (table_rows a rate periods (length out)) in
      (same, put ∙ ap (λ (s : Said ℕ). list_after principal rate s out) same)

  pub answers_refused : (x : Refusal) → check_of taken ≡ Err x → Answers (Err x) out
  unfolding list_after
  answers_refused x e = answers (Err x) out (sym (front_refused taken (made_rows principal rate (row_count periods)) x e)) refl

  pub answers_written : (r : Result ⊤ Refusal) (after : List ℤ) → check_of taken ≡ Ok tt → Writes principal rate (row_count periods) out r after → Answers r after
  answers_written r after e written =
      answers r after (written.said ∙ sym (front_passed taken (made_rows principal rate (row_count periods)) e)) written.put
