-- What the answer of some rows tells of them: rows in front of others decide first, rows that let one value pass let every value
-- pass, and a number that no row has is not given. Assumes nothing.
use Rattle.std.specs.Prelude.{Ok, Err}
use mathlib.Core.Path.{◌≡◌, refl}
use mathlib.Core.Bool.{true, false}
use mathlib.Core.List.{List, [], ◌∷◌, ◌++◌}
use Prim.Native.Nat.{ℕ, ◌<◌}
use native.Mathlib.Omega.{arith}
use Rattle.refusal.specs.declared.Refusal.{Refusal}
use Rattle.refusal.specs.Number.{number_of}
use Rattle.refusal.specs.Rows.{Said, gives, refuses, Row, row, first_row, check_of}

pub front_refused : (front rows : List Row) (r : Refusal) → check_of front ≡ Err r → check_of (front ++ rows) ≡ Err r
front_refused [] rows r e = let z : ◌≡◌ {A = ℕ} 0 1 = cc in absurd (omega arith)
front_refused (row s true ∷ front) rows r e = e
front_refused (row s false ∷ front) rows r e = front_refused front rows r e

pub front_passed : (front rows : List Row) → check_of front ≡ Ok tt → check_of (front ++ rows) ≡ check_of rows
front_passed [] rows e = refl
front_passed (row s true ∷ front) rows e = let z : ◌≡◌ {A = ℕ} 0 1 = cc in absurd (omega arith)
front_passed (row s false ∷ front) rows e = front_passed front rows e

-- what passes all rows passes those in front, and those behind
pub both_passed : (front rows : List Row) → check_of (front ++ rows) ≡ Ok tt → (check_of front ≡ Ok tt) × (check_of rows ≡ Ok tt)
both_passed [] rows e = (refl, e)
both_passed (row s true ∷ front) rows e = let z : ◌≡◌ {A = ℕ} 0 1 = cc in absurd (omega arith)
both_passed (row s false ∷ front) rows e = both_passed front rows e

module _ {A : Type 0} (x : A) where
  pub same_value : (y : A) (rows : List Row) → first_row rows (gives x) ≡ gives y → x ≡ y
  same_value y [] e = cc
  same_value y (row r true ∷ rows) e = let z : ◌≡◌ {A = ℕ} 0 1 = cc in absurd (omega arith)
  same_value y (row r false ∷ rows) e = same_value y rows e

  pub let_pass : (y : A) (rows : List Row) → first_row rows (gives x) ≡ gives y → check_of rows ≡ Ok tt
  let_pass y [] e = refl
  let_pass y (row r true ∷ rows) e = let z : ◌≡◌ {A = ℕ} 0 1 = cc in absurd (omega arith)
  let_pass y (row r false ∷ rows) e = let_pass y rows e

  pub same_refused : {B : Type 0} (value : Said B) (n b : ℕ) (rows : List Row) → first_row rows (gives x) ≡ refuses n b → first_row rows value ≡ refuses n b
  same_refused value n b [] e = let z : ◌≡◌ {A = ℕ} 0 1 = cc in absurd (omega arith)
  same_refused value n b (row r true ∷ rows) e = cc
  same_refused value n b (row r false ∷ rows) e = same_refused value n b rows e

-- where the rows pass, the one value is the other
pub same_behind : {A : Type 0} (v w : Said A) (rows : List Row) → (check_of rows ≡ Ok tt → v ≡ w) → first_row rows v ≡ first_row rows w
same_behind v w [] h = h refl
same_behind v w (row r true ∷ rows) h = refl
same_behind v w (row r false ∷ rows) h = same_behind v w rows h

-- every row's number is below n
abbrev pub Below : ℕ → List Row → Type 0
Below n [] = Unit {0}
Below n (row r holds ∷ rows) = (number_of r < n) × Below n rows

pub not_given : {A : Type 0} (x : A) (n b : ℕ) (rows : List Row) → Below n rows → first_row rows (gives x) ≡ refuses n b → ⊥
not_given x n b [] below e = let z : ◌≡◌ {A = ℕ} 0 1 = cc in omega arith
not_given x n b (row r true ∷ rows) below e = let same : number_of r ≡ n = cc in omega (arith, below.0)
not_given x n b (row r false ∷ rows) below e = not_given x n b rows below.1 e
