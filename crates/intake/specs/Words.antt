-- The words of a line from a place on, read as numbers one after another up to the first that is none. Cited by `next_word` and
-- `read_numbers`. Assumes nothing.
use Rattle.std.specs.Prelude.{Option, Some, None, Bool, true, false, cond, List, [], ◌∷◌, ℕ, zero, suc, min, ltb, eqb, length}
use Rattle.lines.specs.Lines.{nought, word_from}
use Rattle.lines.specs.Reads.{number_at}
use Rattle.lines.specs.declared.Word.{Word}
use Rattle.lines.specs.declared.Number.{Number}
use Rattle.whole.specs.Lists.{filled}

-- "An empty line, or one whose first byte is `#`"
unfoldable pub asks_nothing : List ℕ → Bool
asks_nothing [] = true
asks_nothing (b ∷ bs) = eqb b 35

-- the first word from a place on; from the line's end where the place is beyond it
unfoldable pub next_word : List ℕ → ℕ → Word
next_word line at = word_from line (min at (length line))

-- whether a word is a number, and the number
unfoldable pub is_number : Option Number → Bool
is_number (Some n) = true
is_number None = false

unfoldable pub number_in : Option Number → Number
number_in (Some n) = n
number_in None = nought

-- the place behind so many words, one after another from a place on
unfoldable pub behind_words : List ℕ → (from words : ℕ) → ℕ
behind_words line from zero = from
behind_words line from (suc words) = (word_from line (behind_words line from words)).end

-- the word behind so many, and the number that it is
abbrev pub word_behind : List ℕ → (from words : ℕ) → Word
word_behind line from words = word_from line (behind_words line from words)

abbrev pub number_behind : List ℕ → (from words : ℕ) → Option Number
number_behind line from words = number_at line (word_behind line from words)

-- how many words are numbers, before the first that is none, of so many words
unfoldable pub numbers_among : List ℕ → (from words : ℕ) → ℕ
numbers_among line from zero = zero
numbers_among line from (suc words) =
    cond (is_number (number_behind line from (numbers_among line from words))) (suc (numbers_among line from words)) (numbers_among line from words)

-- a line has at most as many words as bytes
unfoldable pub numbers_in : List ℕ → (from : ℕ) → ℕ
numbers_in line from = numbers_among line from (length line)

-- the count of the numbers, where no word is behind them
unfoldable pub given_of : List ℕ → (from : ℕ) → Option ℕ
given_of line from =
    let word = word_behind line from (numbers_in line from) in cond (ltb word.start word.end) None (Some (numbers_in line from))

-- the list afterwards: each number before the first word that is none stands at its place, where the list has it
unfoldable pub numbers_of : List ℕ → (from : ℕ) → List Number → List Number
numbers_of line from = filled 0 (λ k. number_in (number_behind line from k)) (numbers_in line from)
