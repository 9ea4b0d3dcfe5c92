-- The programs' paper, docs/DESK.md, "`rerun`": what a line of a quarter's file asks for. Cited by `asked_of`. Assumes nothing.
use Rattle.std.specs.Prelude.{Option, Some, None, Bool, true, false, cond, ◌||◌, List, [], ◌∷◌, ℕ, ltb, leb, eqb, replicate}
use Rattle.amount.specs.declared.Amount.{Amount}
use Rattle.intake.specs.Numbers.{unsigned_at, amount_at}
use Rattle.intake.specs.Words.{asks_nothing, next_word, given_of, numbers_of}
use Rattle.lines.specs.Lines.{nought}
use Rattle.lines.specs.declared.Number.{Number}
use Rattle.spoken.specs.declared.Form.{Form}
use Rattle.spoken.specs.declared.Kind.TheVariants.{Plain, Unit, Money}
use Rattle.spoken.specs.Hearing.{bytes_of}
use Rattle.spoken.specs.Reading.{read_of, spoken_of}
use Rattle.console.specs.Verbs.{same_bytes}
use Rattle.quarter.specs.declared.First.{First}
use Rattle.quarter.specs.declared.First.TheVariants.{Open, Card, Post, Refund, Other}
use Rattle.quarter.specs.declared.Asked.{Asked}
use Rattle.quarter.specs.declared.Asked.TheVariants.{Nothing, Unknown, Astray, Call, Open as Opening, Card as NewCard, Refused}

-- post, refund, open, card
abbrev pub first_of : List ℕ → First
first_of word =
    cond (same_bytes word (112 ∷ 111 ∷ 115 ∷ 116 ∷ [])) Post
    (cond (same_bytes word (114 ∷ 101 ∷ 102 ∷ 117 ∷ 110 ∷ 100 ∷ [])) Refund
    (cond (same_bytes word (111 ∷ 112 ∷ 101 ∷ 110 ∷ [])) Open
    (cond (same_bytes word (99 ∷ 97 ∷ 114 ∷ 100 ∷ [])) Card
    Other)))

-- "Wherever `CUR SCALE COEF` stands in a line ..., two words may stand instead ...; and wherever `CUR` stands alone (`open` ..)"
abbrev pub form_of : First → Form
form_of Open = record { first = Unit; fourth = Plain }
form_of Card = record { first = Plain; fourth = Plain }
form_of Post = record { first = Money; fourth = Plain }
form_of Refund = record { first = Money; fourth = Plain }
form_of Other = record { first = Plain; fourth = Plain }

-- `open CUR W W ..`, `card W W ..`, `post CUR SCALE COEF`, `refund CUR SCALE COEF`: "take any count of weights"; "a refund's line may end in a reason code"
abbrev pub takes_of : First → (count : ℕ) → Bool
takes_of Open count = leb 1 count
takes_of Card count = true
takes_of Post count = eqb count 3
takes_of Refund count = eqb count 3 || eqb count 4
takes_of Other count = false

-- "An `open` that is not understood ends the report before it as any opening does"; "A `card` that is not understood ends the book as such an `open` does"
abbrev pub unknown_of : First → Asked
unknown_of Open = Astray
unknown_of Card = Astray
unknown_of Post = Unknown
unknown_of Refund = Unknown
unknown_of Other = Unknown

-- "A text that is refused counts as refused with its number"
abbrev pub call_of : (refund : Bool) → Amount → (refused : Option ℕ) (reason : ℕ) → Asked
call_of refund amount (Some number) reason = Refused number
call_of refund amount None reason = Call (record { refund = refund; amount = amount; reason = reason })

-- "a reason code from 0 to 99 ..; any other number or word there is a line that is not understood"
abbrev pub refund_of : Amount → (refused : Option ℕ) (reason : ℕ) → Asked
refund_of amount refused reason = cond (ltb 99 reason) Unknown (call_of true amount refused reason)

abbrev pub called_of : First → Amount → (refused : Option ℕ) (reason : ℕ) → Asked
called_of Open amount refused reason = Opening
called_of Card amount refused reason = NewCard
called_of Post amount refused reason = call_of false amount refused 0
called_of Refund amount refused reason = refund_of amount refused reason
called_of Other amount refused reason = Unknown

-- "A line that is not understood (an unknown word, a missing or superfluous number, a word that is no number ..)"
unfoldable pub called_with : First → (count : ℕ) → Amount → (refused : Option ℕ) (reason : ℕ) → Asked
called_with first count amount refused reason =
    cond (takes_of first count) (called_of first amount refused reason) (unknown_of first)

unfoldable pub spoken_as : First → (given : Option ℕ) → Amount → (refused : Option ℕ) (reason : ℕ) → Asked
spoken_as first (Some count) amount refused reason = called_with first count amount refused reason
spoken_as first None amount refused reason = unknown_of first

-- the places of the three numbers of an amount and of a reason, 0 where there is none, before a line is read
abbrev pub no_numbers : List Number
no_numbers = replicate 4 nought

-- the words behind the first, of which one is a code or a text, or not understood
unfoldable pub in_words : List ℕ → (from : ℕ) → First → Asked
in_words line from first =
    let r = read_of line from (form_of first) no_numbers in
    spoken_as first (spoken_of r.heard).given (amount_at r.numbers 0) (spoken_of r.heard).refused (unsigned_at 65535 r.numbers 3)

-- the words behind the first: numbers alone, or others among them
abbrev pub by_given : (given : Option ℕ) → List ℕ → (from : ℕ) → First → Asked
by_given (Some count) line from first =
    called_with first count (amount_at (numbers_of line from no_numbers) 0) None (unsigned_at 65535 (numbers_of line from no_numbers) 3)
by_given None line from first = in_words line from first

unfoldable pub behind_first : List ℕ → (from : ℕ) → First → Asked
behind_first line from first = by_given (given_of line from) line from first

-- "Empty lines and comments count nowhere"
unfoldable pub asked_of : List ℕ → Asked
asked_of line =
    let word = next_word line 0 in cond (asks_nothing line) Nothing (behind_first line word.end (first_of (bytes_of line word)))
