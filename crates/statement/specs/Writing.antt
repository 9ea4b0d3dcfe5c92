-- Document 02, Ask 3, "A run is one call: from a currency, a list of partner places, a list of coefficients, a lent buffer and a start in it, it
-- writes one record for each payout from the start on, closes them with a trailer that points back, and reports the file's end." Cited by
-- `write`, and by `write_reasons` of Ask 13, "Chargebacks need a reason code from 0 to 99 beside each payout". Assumes nothing.
use Rattle.std.specs.Prelude.{Bool, false, not, ◌||◌, List, [], ◌∷◌, ℕ, zero, suc, ◌+◌, ltb, eqb, ℤ, pos, length, get_or}
use Rattle.refusal.specs.Rows.{Said, gives, refuses, Row, row, first_row}
use Rattle.refusal.specs.declared.Refusal.TheVariants.{Magnitude, Unknown, Weights, Room}
use Rattle.whole.specs.Whole.{magnitude_of}
use Rattle.currency.specs.declared.Currency.{Currency}
use Rattle.currency.specs.Table.{unknown}
use Rattle.amount.specs.Amounts.{over_l}
use Rattle.statement.specs.Bytes.{pasted}
use Rattle.statement.specs.Files.{Piece, file_size, most_records, last_place, last_reason}
use Rattle.statement.specs.declared.Version.TheVariants.{Plain, Reasons}
use Rattle.statement.specs.declared.Version.{Version}

-- a test holds at one of the first so many places
unfoldable pub any_of : (ℕ → Bool) → ℕ → Bool
any_of f zero = false
any_of f (suc n) = any_of f n || f n

-- row 3 at a coefficient
abbrev pub over_at : List ℤ → ℕ → Bool
over_at coefficients i = over_l (magnitude_of (get_or coefficients i (pos 0)))

abbrev pub any_over : List ℤ → Bool
any_over coefficients = any_of (over_at coefficients) (length coefficients)

-- row 9 at a number that has a last one: "a place over 15", and Ask 13's "A code over 99 is 9 when written"
abbrev pub past_at : (last : ℕ) → List ℕ → ℕ → Bool
past_at last numbers i = ltb last (get_or numbers i 0)

abbrev pub any_past : (last : ℕ) → List ℕ → Bool
any_past last numbers = any_of (past_at last numbers) (length numbers)

-- "Lists of unequal length or a place over 15 are refusal 9; over 4,000 records, or too little room after the start, is 11; 3 and 4 are as in
-- document 01": by whether a coefficient is over L, the lists are uneven and one of their numbers is too far, the currency, the count, the
-- buffer's length and the start
abbrev pub run_rows : (version : Version) (over : Bool) → Currency → (uneven far : Bool) → (count room start : ℕ) → List Row
run_rows version over currency uneven far count room start =
    row Magnitude over
    ∷ row Unknown (unknown currency)
    ∷ row Weights uneven
    ∷ row Weights far
    ∷ row Room (ltb most_records count)
    ∷ row Room (ltb room (start + file_size version count))
    ∷ []

unfoldable pub write_rows : Currency → (places : List ℕ) → (coefficients : List ℤ) → (room start : ℕ) → List Row
write_rows currency places coefficients room start =
    run_rows Plain (any_over coefficients) currency (not (eqb (length places) (length coefficients))) (any_past last_place places) (length places) room start

-- Ask 13: three lists of one length
unfoldable pub reasons_rows : Currency → (places reasons : List ℕ) → (coefficients : List ℤ) → (room start : ℕ) → List Row
reasons_rows currency places reasons coefficients room start =
    run_rows Reasons (any_over coefficients) currency
    (not (eqb (length places) (length coefficients)) || not (eqb (length places) (length reasons)))
    (any_past last_place places || any_past (last_reason Reasons) reasons)
    (length places)
    room
    start

-- the payouts, by their places in the lists; those of Ask 3 have no codes
abbrev pub payout_with : Currency → (places reasons : List ℕ) → List ℤ → ℕ → Piece
payout_with currency places reasons coefficients i =
    record { place = get_or places i 0; currency = currency.0; coefficient = get_or coefficients i (pos 0); reason = get_or reasons i 0 }

abbrev pub payout : Currency → List ℕ → List ℤ → ℕ → Piece
payout currency places coefficients = payout_with currency places [] coefficients

-- the file's end, or the refusal
unfoldable pub write_said : Currency → (places : List ℕ) → (coefficients : List ℤ) → (room start : ℕ) → Said ℕ
write_said currency places coefficients room start =
    first_row (write_rows currency places coefficients room start) (gives (start + file_size Plain (length places)))

unfoldable pub reasons_said : Currency → (places reasons : List ℕ) → (coefficients : List ℤ) → (room start : ℕ) → Said ℕ
reasons_said currency places reasons coefficients room start =
    first_row (reasons_rows currency places reasons coefficients room start) (gives (start + file_size Reasons (length places)))

-- the lent buffer afterwards: the file from the start on, "and nothing else changes"; all of it stays where the call is refused
unfoldable pub buffer_after : Said ℕ → (start : ℕ) → (file out : List ℕ) → List ℕ
buffer_after (gives end) start file out = pasted start file out
buffer_after (refuses number blamed) start file out = out
