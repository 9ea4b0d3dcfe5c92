-- Document 02, Ask 3, "A reader is given bytes whose end is the trailer's end; it accepts exactly such files (else 14): version 1, at most 4,000
-- records, distance 16 x count and inside the bytes, the sum right, all zeros zero, one known currency, places 0 to 15, coefficients within
-- L. It answers the first record's start, the count and the sum." Ask 13, "The new reader takes both versions", "17 is given when the last 24
-- bytes hold version 2 and six zeros, and before 14". The rows by the numbers in the bytes; that 14 holds for all bytes but those that end
-- in a file of `Files` is `exactly` and `any_exactly` in proofs/Exactly.antt. Cited by `check` and `check_any`. Assumes nothing.
use Rattle.std.specs.Prelude.{Bool, cond, not, ◌||◌, ◌&&◌, List, [], ◌∷◌, ◌++◌, ℕ, ◌+◌, ◌*◌, ◌-◌, ltb, eqb, ℤ, length}
use Rattle.refusal.specs.Rows.{Said, gives, Row, row, first_row}
use Rattle.refusal.specs.declared.Refusal.TheVariants.{Malformed, Newer}
use Rattle.whole.specs.Whole.{magnitude_of}
use Rattle.currency.specs.Table.{last_currency}
use Rattle.amount.specs.Amounts.{over_l}
use Rattle.statement.specs.declared.Trailer.{Trailer}
use Rattle.statement.specs.declared.Summary.{Summary}
use Rattle.statement.specs.declared.SummaryOfAny.{SummaryOfAny}
use Rattle.statement.specs.Bytes.{number_at, word_of, from_word}
use Rattle.statement.specs.Files.{version_of, record_width, code_bytes, code_zeros, trailer_width, most_records, last_place, last_reason, total_of}
use Rattle.statement.specs.Writing.{any_of}
use Rattle.statement.specs.declared.Version.TheVariants.{Plain, Reasons}
use Rattle.statement.specs.declared.Version.{Version}

-- "the last 24 bytes of the file": where they start, and the numbers in them
abbrev pub trailer_place : List ℕ → ℕ
trailer_place bytes = length bytes - trailer_width

unfoldable pub trailer_at : List ℕ → (place : ℕ) → Trailer
trailer_at bytes place =
    record {
      distance = number_at bytes place 4;
      count = number_at bytes (place + 4) 4;
      sum = number_at bytes (place + 8) 8;
      version = number_at bytes (place + 16) 2;
      zeros = number_at bytes (place + 18) 6;
    }

abbrev pub trailer_in : List ℕ → Trailer
trailer_in bytes = trailer_at bytes (trailer_place bytes)

-- the first record's start: the distance back from the trailer's
abbrev pub first_of : (place : ℕ) → Trailer → ℕ
first_of place t = place - t.distance

-- the rows at a trailer: "version 1", its zeros, "at most 4,000 records, distance 16 x count and inside the bytes"; of version 2 "distance is
-- 24 x count"
abbrev pub trailer_rows : (width version place : ℕ) → Trailer → List Row
trailer_rows width version place t =
    row Malformed (not (eqb t.version version))
    ∷ row Malformed (not (eqb t.zeros 0))
    ∷ row Malformed (ltb most_records t.count)
    ∷ row Malformed (not (eqb t.distance (width * t.count)))
    ∷ row Malformed (ltb place t.distance)
    ∷ []

-- the place of a record, and the coefficient there
abbrev pub record_place : (width first i : ℕ) → ℕ
record_place width first i = first + width * i

abbrev pub coefficient_at : List ℕ → (at : ℕ) → ℤ
coefficient_at bytes at = from_word (number_at bytes (at + 8) 8)

abbrev pub coefficients_in : List ℕ → (width first : ℕ) → ℕ → ℤ
coefficients_in bytes width first i = coefficient_at bytes (record_place width first i)

-- a record by its numbers: "places 0 to 15", "one known currency", the first record's, "all zeros zero", "coefficients within L"
abbrev pub bad_numbers : (place currency agreed zeros word : ℕ) → Bool
bad_numbers place currency agreed zeros word =
    ltb last_place place
    || (ltb last_currency currency || (not (eqb currency agreed) || (not (eqb zeros 0) || over_l (magnitude_of (from_word word)))))

-- what a record of version 2 has behind them: "A code over 99 is ... 14 when read"; read from no bytes, both numbers are 0
abbrev pub bad_code : (version : Version) → (code zeros : ℕ) → Bool
bad_code version code zeros = ltb (last_reason version) code || not (eqb zeros 0)

unfoldable pub bad_record : (version : Version) → List ℕ → (agreed at : ℕ) → Bool
bad_record version bytes agreed at =
    bad_numbers (number_at bytes at 2) (number_at bytes (at + 2) 2) agreed (number_at bytes (at + 4) 4) (number_at bytes (at + 8) 8)
    || bad_code version (number_at bytes (at + 16) (code_bytes version)) (number_at bytes (at + (16 + code_bytes version)) (code_zeros version))

-- the rows at the records: each of them, and "the sum right"
abbrev pub agreed_in : List ℕ → (first : ℕ) → ℕ
agreed_in bytes first = number_at bytes (first + 2) 2

abbrev pub record_rows : (version : Version) → List ℕ → (first count word : ℕ) → List Row
record_rows version bytes first count word =
    row Malformed (any_of (λ i. bad_record version bytes (agreed_in bytes first) (record_place (record_width version) first i)) count)
    ∷ row Malformed (not (eqb (word_of (total_of (coefficients_in bytes (record_width version) first) count)) word))
    ∷ []

-- the rows of a reader of one version: too few bytes for a trailer, the trailer's, the records'
abbrev pub file_rows : (version : Version) → List ℕ → (place : ℕ) → Trailer → List Row
file_rows version bytes place t =
    trailer_rows (record_width version) (version_of version) place t ++ record_rows version bytes (first_of place t) t.count t.sum

unfoldable pub version_rows : (version : Version) → List ℕ → List Row
version_rows version bytes =
    (row Malformed (ltb (length bytes) trailer_width) ∷ []) ++ file_rows version bytes (trailer_place bytes) (trailer_in bytes)

-- "when the last 24 bytes hold version 2 and six zeros"
abbrev pub newer_at : Trailer → Bool
newer_at t = eqb t.version (version_of Reasons) && eqb t.zeros 0

unfoldable pub newer : List ℕ → Bool
newer bytes = not (ltb (length bytes) trailer_width) && newer_at (trailer_in bytes)

-- the rows of the reader of Ask 3, "amended by that and nothing else"
unfoldable pub read_rows : List ℕ → List Row
read_rows bytes = (row Newer (newer bytes) ∷ []) ++ version_rows Plain bytes

-- "the first record's start, the count and the sum"
unfoldable pub summary_in : (version : Version) → List ℕ → Summary
summary_in version bytes =
    let t : Trailer = trailer_in bytes in
    let first : ℕ = first_of (trailer_place bytes) t in
    record { first = first; count = t.count; sum = total_of (coefficients_in bytes (record_width version) first) t.count }

abbrev pub summary_of : List ℕ → Summary
summary_of bytes = summary_in Plain bytes

unfoldable pub read_said : List ℕ → Said Summary
read_said bytes = first_row (read_rows bytes) (gives (summary_of bytes))

-- "The new reader takes both versions": by the rows of version 2 where the last bytes hold it, else by those of version 1, which refuse all others
abbrev pub version_in : List ℕ → Version
version_in bytes = cond (eqb (trailer_in bytes).version (version_of Reasons)) Reasons Plain

unfoldable pub any_rows : List ℕ → List Row
any_rows bytes = version_rows (version_in bytes) bytes

-- the numbers of a file of either version, with its own
abbrev pub summary_of_any : List ℕ → SummaryOfAny
summary_of_any bytes = record { version = version_of (version_in bytes); summary = summary_in (version_in bytes) bytes }

unfoldable pub any_said : List ℕ → Said SummaryOfAny
any_said bytes = first_row (any_rows bytes) (gives (summary_of_any bytes))
