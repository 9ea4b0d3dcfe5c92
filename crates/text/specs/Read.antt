-- Document 02, Ask 1, reading as a call: "Refusal 14 for anything else, given before 13; a well-formed text over L gets 13." The rows are tests of
-- the bytes; that they are the grammar's is `read_exactly` (proofs/Exactly.antt). Cited by `read`. Assumes nothing.
use Rattle.std.specs.Prelude.{◌≡◌, Bool, false, cond, not, ◌&&◌, ◌||◌, List, [], ◌∷◌, ◌++◌, ℕ, ◌+◌, ◌-◌, leb, ltb, eqb, length, get_or, drop}
use Rattle.std.proofs.Math.Seq.{slice}
use Rattle.refusal.specs.Rows.{Said, gives, Row, row, first_row}
use Rattle.refusal.specs.declared.Refusal.TheVariants.{Unknown, Malformed, Limit}
use Rattle.whole.specs.Whole.{signed_of}
use Rattle.lines.specs.Lines.{span, is_digit, worth}
use Rattle.currency.specs.declared.Currency.{Currency}
use Rattle.currency.specs.Table.{unknown}
use Rattle.amount.specs.declared.Amount.{Amount}
use Rattle.amount.specs.Amounts.{over_l}

-- a minus stands in front, and the first place behind it
abbrev pub negative_in : List ℕ → Bool
negative_in bytes = eqb (get_or bytes 0 0) 45

abbrev pub start_in : List ℕ → ℕ
start_in bytes = cond (negative_in bytes) 1 0

-- where the digits from a place on end
abbrev pub digits_end : List ℕ → ℕ → ℕ
digits_end bytes at = at + span is_digit (drop at bytes)

abbrev pub end_in : List ℕ → ℕ
end_in bytes = digits_end bytes (start_in bytes)

-- the digits between two places, those behind the place of the point, and the number of both
abbrev pub fraction_from : List ℕ → (end : ℕ) → List ℕ
fraction_from bytes end = drop (end + 1) bytes

abbrev pub number_at : List ℕ → (start end : ℕ) → ℕ
number_at bytes start end = worth 0 (slice start end bytes ++ fraction_from bytes end)

abbrev pub scale_at : (length end : ℕ) → ℕ
scale_at length end = length - (end + 1)

-- no digit before the point, or a 0 before another
abbrev pub bad_whole : List ℕ → (start end : ℕ) → Bool
bad_whole bytes start end = leb end start || (eqb (get_or bytes start 0) 48 && ltb (start + 1) end)

-- something else than a point with 1 to 6 digits up to the end
abbrev pub bad_fraction : List ℕ → (end : ℕ) → Bool
bad_fraction bytes end =
    ltb end (length bytes)
    && (not (eqb (get_or bytes end 0) 46)
    || (eqb (length bytes - (end + 1)) 0
    || (ltb 6 (length bytes - (end + 1)) || ltb (digits_end bytes (end + 1)) (length bytes))))

-- over 20 characters, or either
unfoldable pub bad_shape : List ℕ → (start end : ℕ) → Bool
bad_shape bytes start end = ltb 20 (length bytes) || (bad_whole bytes start end || bad_fraction bytes end)

-- a minus on zero
abbrev pub signed_zero : Bool → ℕ → Bool
signed_zero negative m = negative && eqb m 0

-- row 14
abbrev pub malformed : List ℕ → Bool
malformed bytes = bad_shape bytes (start_in bytes) (end_in bytes) || signed_zero (negative_in bytes) (number_at bytes (start_in bytes) (end_in bytes))

abbrev pub amount_in : Currency → (negative : Bool) (scale m : ℕ) → Amount
amount_in currency negative scale m = record { currency = currency; scale = scale; coefficient = signed_of negative m }

-- the rows: 4, 14 and 13
abbrev pub read_rows : Currency → List ℕ → List Row
read_rows currency bytes =
    row Unknown (unknown currency) ∷ row Malformed (malformed bytes) ∷ row Limit (over_l (number_at bytes (start_in bytes) (end_in bytes))) ∷ []

unfoldable pub read_said : Currency → List ℕ → Said Amount
read_said currency bytes =
    first_row (read_rows currency bytes)
    (gives (amount_in currency (negative_in bytes) (scale_at (length bytes) (end_in bytes)) (number_at bytes (start_in bytes) (end_in bytes))))

-- what the functions below `read` hand each other: a text's answer behind the tests of its shape, by its sign, its scale and its number
unfoldable pub made_said : Currency → (negative : Bool) (scale m : ℕ) → Said Amount
made_said currency negative scale m =
    first_row (row Malformed (signed_zero negative m) ∷ row Limit (over_l m) ∷ []) (gives (amount_in currency negative scale m))

-- the places of a text whose shape is good
pub record Shaped (bytes : List ℕ) (start end : ℕ) : Type 0 where
  pub starts : start ≡ start_in bytes
  pub ends : end ≡ digits_end bytes start
  pub good : bad_shape bytes start end ≡ false
