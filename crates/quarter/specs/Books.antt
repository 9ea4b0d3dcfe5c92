-- The programs' paper, docs/DESK.md: the book that an opening or a new card makes, by the numbers of its line. Cited by `begin`, `card_of` and
-- `no_book`. Assumes nothing.
use Rattle.std.specs.Prelude.{Option, Some, None, Bool, false, List, [], ℕ, replicate, take, Result, Ok, Err, ⊤}
use Rattle.refusal.specs.Rows.{check_of}
use Rattle.refusal.specs.declared.Refusal.{Refusal}
use Rattle.currency.specs.declared.Currency.{Currency}
use Rattle.book.specs.Moves.{zero_book, open_rows, open_said, opened_book}
use Rattle.lines.specs.Lines.{nought}
use Rattle.lines.specs.declared.Number.{Number}
use Rattle.intake.specs.Numbers.{unsigned_at, listed_count, listed}
use Rattle.intake.specs.Words.{next_word, given_of, numbers_of}
use Rattle.spoken.specs.Reading.{read_of, spoken_of}
use Rattle.quarter.specs.Asking.{form_of}
use Rattle.quarter.specs.declared.First.TheVariants.{Open}
use Rattle.quarter.specs.declared.Opening.{Opening}
use Rattle.quarter.specs.declared.Opening.TheVariants.{Unknown, Refused, Accepted}
use Rattle.quarter.specs.declared.Begun.{Begun}

-- "`share` and `open` take any count of weights: what is too many for the library is refused by it": a weight more than a book has is held
abbrev pub no_weights : List ℕ
no_weights = replicate 17 0

-- the weights of a line from a place of its numbers on
abbrev pub weights_from : List Number → (from count : ℕ) → List ℕ
weights_from numbers from count = take (listed_count from count no_weights) (listed (unsigned_at 4294967295 numbers) from count no_weights)

-- how the book was opened
abbrev pub opening_of : Result ⊤ Refusal → Opening
opening_of (Ok passed) = Accepted
opening_of (Err refusal) = Refused refusal

-- "A refused opening leaves the all-zero book"
unfoldable pub begun_with : Currency → List ℕ → (coded : Bool) → Begun
begun_with currency weights coded =
    record { opening = opening_of (check_of (open_rows currency weights)); book = opened_book (open_said currency weights); coded = coded }

unfoldable pub begun_by : (given : Option ℕ) → List Number → (coded : Bool) → Begun
begun_by (Some count) numbers coded = begun_with (record { 0 = unsigned_at 255 numbers 0 }) (weights_from numbers 1 count) coded
begun_by None numbers coded = record { opening = Unknown; book = zero_book; coded = false }

-- `open CUR W W ..`
unfoldable pub begun_of : List ℕ → Begun
begun_of line =
    let r = read_of line (next_word line 0).end (form_of Open) (replicate 18 nought) in
    begun_by (spoken_of r.heard).given r.numbers (spoken_of r.heard).coded

-- `card W W ..`
abbrev pub card_by : (given : Option ℕ) → List Number → List ℕ
card_by (Some count) numbers = weights_from numbers 0 count
card_by None numbers = []

unfoldable pub card_weights : List ℕ → List ℕ
card_weights line = let from = (next_word line 0).end in card_by (given_of line from) (numbers_of line from (replicate 17 nought))
