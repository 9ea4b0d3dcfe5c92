-- From a check's answer to the answer of its call: what the check lets pass is the value, what it refuses is the call's refusal.
-- Assumes nothing.
use Rattle.std.specs.Prelude.{Ok, Err}
use mathlib.Core.Path.{◌≡◌, refl, ap}
use mathlib.Core.Bool.{true, false}
use mathlib.Core.List.{List, [], ◌∷◌, ◌++◌}
use Prim.Native.Nat.{ℕ}
use native.Mathlib.Omega.{arith}
use Rattle.refusal.specs.declared.Refusal.{Refusal}
use Rattle.refusal.specs.Number.{number_of, blamed_of}
use Rattle.refusal.specs.Rows.{Said, refuses, Row, row, first_row, check_of}

module _ {A : Type 0} (value : Said A) where
  pub passed : (rows : List Row) → check_of rows ≡ Ok tt → first_row rows value ≡ value
  passed [] e = refl
  passed (row r true ∷ rows) e = let z : ◌≡◌ {A = ℕ} 0 1 = cc in absurd (omega arith)
  passed (row r false ∷ rows) e = passed rows e

  pub refused : (rows : List Row) (r : Refusal) → check_of rows ≡ Err r → first_row rows value ≡ refuses (number_of r) (blamed_of r)
  refused [] r e = let z : ◌≡◌ {A = ℕ} 0 1 = cc in absurd (omega arith)
  refused (row s true ∷ rows) r e = let same : s ≡ r = cc in ap (λ (x : Refusal). refuses (number_of x) (blamed_of x)) same
  refused (row s false ∷ rows) r e = refused rows r e

  -- rows behind rows: those in front decide first
  pub behind : (front rows : List Row) → first_row (front ++ rows) value ≡ first_row front (first_row rows value)
  behind [] rows = refl
  behind (row r true ∷ front) rows = refl
  behind (row r false ∷ front) rows = behind front rows

-- no row holds
abbrev pub Clear : List Row → Type 0
Clear [] = Unit {0}
Clear (row r holds ∷ rows) = (holds ≡ false) × Clear rows

pub clear : (rows : List Row) → check_of rows ≡ Ok tt → Clear rows
clear [] e = tt
clear (row r true ∷ rows) e = let z : ◌≡◌ {A = ℕ} 0 1 = cc in absurd (omega arith)
clear (row r false ∷ rows) e = (refl, clear rows e)
