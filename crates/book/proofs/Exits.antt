-- The exit of `check()?` among rows: what a check in front refuses, the rows refuse, and so does a call of these rows. Assumes nothing.
use Rattle.std.specs.Prelude.{Result, Ok, Err, ⊤}
use Rattle.std.specs.Result.{IsErrAnd}
use Rattle.std.proofs.lemmas.Result.{err_from_is_err_and}
use mathlib.Core.Path.{◌≡◌, sym, ap, ◌∙◌}
use mathlib.Core.List.{List, [], ◌∷◌, ◌++◌}
use mathlib.Core.Bool.{true, false}
use Prim.Native.Nat.{ℕ}
use native.Mathlib.Omega.{arith}
use Rattle.refusal.specs.declared.Refusal.{Refusal}
use Rattle.refusal.specs.Rows.{Said, gives, refuses, Row, row, first_row, check_of, means}
use Rattle.refusal.proofs.Check.{passed, refused, behind}
use Rattle.refusal.proofs.Joined.{front_refused, same_value, let_pass}
use Rattle.refusal.proofs.OneToOne.{same_refusal}
use Rattle.refusal.specs.Number.{number_of, blamed_of}

pub at_exit : (first made : Result ⊤ Refusal) (front rows : List Row) (r : Refusal) → IsErrAnd made (λ e. e ≡ r) → first ≡ check_of front → first ≡ Err r
    → made ≡ check_of (front ++ rows)
at_exit first made front rows r exit asked was =
    let p = err_from_is_err_and made exit in p.1 ∙ ap Err p.2 ∙ sym (front_refused front rows r (sym asked ∙ was))

pub call_exit : {A : Type 0} (value : Said A) (first : Result ⊤ Refusal) (made : Result A Refusal) (rows : List Row) (r : Refusal)
    → IsErrAnd made (λ e. e ≡ r) → first ≡ check_of rows → first ≡ Err r → means made ≡ first_row rows value
call_exit value first made rows r exit asked was =
    let p = err_from_is_err_and made exit in ap means (p.1 ∙ ap Err p.2) ∙ sym (refused value rows r (sym asked ∙ was))

-- a call of rows behind rows
module _ {A : Type 0} (value : Said A) (front rows : List Row) where
  pub exit_behind : (made : Result A Refusal) (r : Refusal) → IsErrAnd made (λ e. e ≡ r) → check_of front ≡ Err r → means made ≡ first_row (front ++ rows) value
  exit_behind made r exit e =
      let p = err_from_is_err_and made exit in
      ap means (p.1 ∙ ap Err p.2) ∙ sym (behind value front rows ∙ refused (first_row rows value) front r e)

  pub pass_behind : check_of front ≡ Ok tt → first_row (front ++ rows) value ≡ first_row rows value
  pass_behind e = behind value front rows ∙ passed (first_row rows value) front e

-- a check that answers x where its rows pass
module _ {A : Type 0} (x : A) (first : Result A Refusal) (front : List Row) (asked : means first ≡ first_row front (gives x)) where
  pub was_refused : (r : Refusal) → first ≡ Err r → check_of front ≡ Err r
  was_refused r was = go front (sym (ap means was) ∙ asked)
    where
      go : (rows : List Row) → refuses (number_of r) (blamed_of r) ≡ first_row rows (gives x) → check_of rows ≡ Err r
      go [] e = let z : ◌≡◌ {A = ℕ} 0 1 = cc in absurd (omega arith)
      go (row s true ∷ rows) e = ap Err (sym (same_refusal {A = A} r s e))
      go (row s false ∷ rows) e = go rows e

  pub was_passed : (v : A) → first ≡ Ok v → (check_of front ≡ Ok tt) × (x ≡ v)
  was_passed v was = let e = sym asked ∙ ap means was in (let_pass x v front e, same_value x v front e)
