-- Document 01, "Refusal numbers": what a call says, and the rows of a call.
-- Cited by the promises of every call. Assumes nothing.
use Rattle.std.specs.Prelude.{◌≡◌, Bool, true, false, ◌&&◌, List, [], ◌∷◌, ℕ, leb, ltb, Result, Ok, Err, ⊤}
use Rattle.refusal.specs.declared.Refusal.{Refusal}
use Rattle.refusal.specs.declared.Refusal.TheVariants.{Rate}
use Rattle.refusal.specs.Number.{number_of, blamed_of}
use Rattle.refusal.specs.Rank.{rank_of}

-- "An answer is the value or a refusal, never both": the table's number, and the date blamed (0 where none is)
pub data Said (A : Type 0) : Type 0 where
  gives : A → Said A
  refuses : (number blamed : ℕ) → Said A

-- a row of the table at a call: the refusal, and whether its row holds for something that the call takes or makes
pub data Row : Type 0 where
  row : Refusal → Bool → Row

abbrev pub number_at : Row → ℕ
number_at (row r holds) = number_of r

abbrev pub holds_at : Row → Bool
holds_at (row r holds) = holds

-- the answer of a call with these rows, in the table's order: the first row that holds, else the value
abbrev pub first_row : {A : Type 0} → List Row → Said A → Said A
first_row [] value = value
first_row (row r true ∷ rows) value = refuses (number_of r) (blamed_of r)
first_row (row r false ∷ rows) value = first_row rows value

-- the same as a check's answer
abbrev pub check_of : List Row → Result ⊤ Refusal
check_of [] = Ok tt
check_of (row r true ∷ rows) = Err r
check_of (row r false ∷ rows) = check_of rows

-- what an answer says
abbrev pub means : {A : Type 0} → Result A Refusal → Said A
means (Ok value) = gives value
means (Err r) = refuses (number_of r) (blamed_of r)

-- what a check says, beside the value that the call gives where it passes
abbrev pub means_outcome : {A : Type 0} → Result ⊤ Refusal → A → Said A
means_outcome (Ok passed) value = gives value
means_outcome (Err r) value = refuses (number_of r) (blamed_of r)

-- row 6 at a rate: "a rate is outside its limits", which are 0 and this one
abbrev pub rate_rows : (most rate : ℕ) → List Row
rate_rows most rate = row Rate (ltb most rate) ∷ []

-- the rows stand in the order in which they are asked
abbrev pub rank_at : Row → ℕ
rank_at x = rank_of (number_at x)

abbrev pub rising_from : ℕ → List Row → Bool
rising_from rank [] = true
rising_from rank (x ∷ rows) = leb rank (rank_at x) && rising_from (rank_at x) rows

abbrev pub rising : List Row → Bool
rising = rising_from 0

-- a row of number n holds
pub data Holds (n : ℕ) : List Row → Type 0 where
  here : (x : Row) (rows : List Row) → number_at x ≡ n → holds_at x ≡ true → Holds n (x ∷ rows)
  later : (x : Row) (rows : List Row) → Holds n rows → Holds n (x ∷ rows)
