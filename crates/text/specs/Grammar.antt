-- Document 02, Ask 1, "Amounts as text": the accepted texts, stated apart from the reader. Cited by the theorems on `read` and `write`.
-- Assumes nothing.
use Rattle.std.specs.Prelude.{◌≡◌, Bool, true, false, List, [], ◌∷◌, ◌++◌, ℕ, ◌≤◌, ◌<◌, length, get_or}
use Rattle.whole.specs.Whole.{signed_of}
use Rattle.lines.specs.Lines.{worth}
use Rattle.currency.specs.declared.Currency.{Currency}
use Rattle.amount.specs.declared.Amount.{Amount}

-- "digits" in ASCII: the bytes 48 to 57
pub data Digits : List ℕ → Type 0 where
  none : Digits []
  more : {b : ℕ} {bs : List ℕ} → 48 ≤ b → b ≤ 57 → Digits bs → Digits (b ∷ bs)

-- "an optional minus": the byte 45
abbrev pub minus : Bool → List ℕ
minus true = 45 ∷ []
minus false = []

-- "optionally a point with 1 to 6 digits": the byte 46 before them; no digits, no point
abbrev pub pointed : List ℕ → List ℕ
pointed [] = []
pointed (b ∷ bs) = 46 ∷ b ∷ bs

-- the number that the digits before and after the point make
abbrev pub number : (whole fraction : List ℕ) → ℕ
number whole fraction = worth 0 (whole ++ fraction)

-- the text of a sign, the digits before the point and those after it
pub record Text (bytes : List ℕ) (negative : Bool) (whole fraction : List ℕ) : Type 0 where
  -- "an optional minus, one or more digits, and optionally a point with 1 to 6 digits"
  pub spelled : bytes ≡ minus negative ++ (whole ++ pointed fraction)
  pub digits : Digits whole
  pub some : 0 < length whole
  pub places : Digits fraction
  pub few : length fraction ≤ 6
  -- "No leading zeros but a single 0 before the point"
  pub plain : get_or whole 0 0 ≡ 48 → length whole ≡ 1
  -- "no minus on zero"
  pub signed : negative ≡ true → 0 < number whole fraction
  -- "at most 20 characters"
  pub short : length bytes ≤ 20

-- the accepted texts: of some sign and some digits
pub record Accepted (bytes : List ℕ) : Type 0 where
  pub negative : Bool
  pub whole : List ℕ
  pub fraction : List ℕ
  pub text : Text bytes negative whole fraction

-- a text's amount: "the number of digits after the point is the scale"
abbrev pub amount_of : Currency → (negative : Bool) (whole fraction : List ℕ) → Amount
amount_of currency negative whole fraction =
    record { currency = currency; scale = length fraction; coefficient = signed_of negative (number whole fraction) }
