-- Document 02, Asks 3 and 13, the statement file, as a definition on bytes that no reader or writer is part of. Assumes nothing.
use Rattle.std.specs.Prelude.{◌≡◌, List, [], ◌∷◌, ◌++◌, ℕ, zero, suc, ◌+◌, ◌*◌, ◌≤◌, ◌<◌, ℤ, pos, ◌+ℤ◌, length}
use Rattle.whole.specs.Whole.{magnitude_of}
use Rattle.currency.specs.Table.{last_currency}
use Rattle.amount.specs.Amounts.{largest}
use Rattle.statement.specs.Bytes.{Field, field, field_bytes, word_of}
use Rattle.statement.specs.declared.Version.TheVariants.{Plain, Reasons}
use Rattle.statement.specs.declared.Version.{Version}

-- what a record says of one payout; "a reason code from 0 to 99 beside each payout" from Ask 13 on
pub record Piece : Type 0 where
  pub place : ℕ
  pub currency : ℕ
  pub coefficient : ℤ
  pub reason : ℕ

-- the version of a file by whether its records have a reason: "version 1" of Ask 3, version 2 of Ask 13
abbrev pub version_of : (version : Version) → ℕ
version_of Plain = 1
version_of Reasons = 2

-- Ask 3: "Record, 16 bytes"; Ask 13: "Version 2 records are 24 bytes"
abbrev pub record_width : (version : Version) → ℕ
record_width Plain = 16
record_width Reasons = 24

-- "the 16 of Ask 3, then the code (2) and zeros (6)": version 1 has no bytes for either
abbrev pub code_bytes : (version : Version) → ℕ
code_bytes Plain = 0
code_bytes Reasons = 2

abbrev pub code_zeros : (version : Version) → ℕ
code_zeros Plain = 0
code_zeros Reasons = 6

-- "partner place (2), currency (2), zeros (4), coefficient in two's complement (8)", "then the code (2) and zeros (6)"
abbrev pub record_fields : (version : Version) → Piece → List Field
record_fields version p =
    field 2 p.place ∷ field 2 p.currency ∷ field 4 0 ∷ field 8 (word_of p.coefficient) ∷ field (code_bytes version) p.reason ∷ field (code_zeros version) 0 ∷ []

unfoldable pub record_bytes : (version : Version) → Piece → List ℕ
record_bytes version p = field_bytes (record_fields version p)

-- "Trailer, the last 24 bytes of the file: distance in bytes from the trailer's start back to the first record (4), record count (4), sum of
-- the coefficients (8), version 1 (2), zeros (6)"
abbrev pub trailer_width : ℕ
trailer_width = 24

abbrev pub trailer_fields : (distance count : ℕ) → (sum : ℤ) → (version : ℕ) → List Field
trailer_fields distance count sum version =
    field 4 distance ∷ field 4 count ∷ field 8 (word_of sum) ∷ field 2 version ∷ field 6 0 ∷ []

unfoldable pub trailer_bytes : (width count : ℕ) → (sum : ℤ) → (version : ℕ) → List ℕ
trailer_bytes width count sum version = field_bytes (trailer_fields (width * count) count sum version)

-- so many lists one behind the other
unfoldable pub joined : (ℕ → List ℕ) → ℕ → List ℕ
joined f zero = []
joined f (suc n) = joined f n ++ f n

-- the sum of so many numbers
unfoldable pub total_of : (ℕ → ℤ) → ℕ → ℤ
total_of f zero = pos 0
total_of f (suc n) = total_of f n +ℤ f n

-- "one record for each payout ..., closes them with a trailer that points back"; "distance is 24 x count" of version 2; "An empty statement is a
-- trailer alone, distance 0"
unfoldable pub file_of : (version : Version) → (ℕ → Piece) → (count : ℕ) → List ℕ
file_of version piece count =
    joined (λ i. record_bytes version (piece i)) count
    ++ trailer_bytes (record_width version) count (total_of (λ i. (piece i).coefficient) count) (version_of version)

-- the file of Ask 3
abbrev pub file_bytes : (ℕ → Piece) → (count : ℕ) → List ℕ
file_bytes = file_of Plain

abbrev pub file_size : (version : Version) → (count : ℕ) → ℕ
file_size version count = record_width version * count + trailer_width

-- "at most 4,000 records", "places 0 to 15"
abbrev pub most_records : ℕ
most_records = 4000

abbrev pub last_place : ℕ
last_place = 15

-- "a reason code from 0 to 99"; a record of version 1 has "code 0"
abbrev pub last_reason : (version : Version) → ℕ
last_reason Plain = 0
last_reason Reasons = 99

-- a record's limits: its place, "one known currency", "coefficients within L", its code
pub record Sound (version : Version) (currency : ℕ) (p : Piece) : Type 0 where
  pub placed : p.place ≤ last_place
  pub agrees : p.currency ≡ currency
  pub within : magnitude_of p.coefficient ≤ largest
  pub coded : p.reason ≤ last_reason version

-- bytes that end in such a file, whose first record starts at a place; "Bytes before the first record belong to someone else"
pub record Ends (version : Version) (bytes : List ℕ) (first count : ℕ) (sum : ℤ) : Type 0 where
  pub front : List ℕ
  pub piece : ℕ → Piece
  pub currency : ℕ
  pub whole : bytes ≡ front ++ file_of version piece count
  pub starts : length front ≡ first
  pub few : count ≤ most_records
  pub known : currency ≤ last_currency
  pub sound : (i : ℕ) → i < count → Sound version currency (piece i)
  pub summed : total_of (λ i. (piece i).coefficient) count ≡ sum
