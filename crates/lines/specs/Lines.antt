-- A line of text, its words and its whole numbers, as the programs read them: bytes of ASCII. Cited by the functions of `lines`.
-- Assumes nothing.
use Rattle.std.specs.Prelude.{Option, Some, None, Bool, true, false, not, cond, ◌&&◌, List, [], ◌∷◌, ℕ, suc, ◌+◌, ◌-◌, ◌*◌, ◌^◌, min, leb, ltb, eqb, ℤ, length, get_or, drop}
use Rattle.whole.specs.Whole.{signed_of}
use Rattle.lines.specs.declared.Word.{Word}
use Rattle.lines.specs.declared.Number.{Number}

-- "A line ends at a newline or at the end of the input"; "a tab is no space"
abbrev pub is_newline : ℕ → Bool
is_newline b = eqb b 10

abbrev pub is_space : ℕ → Bool
is_space b = eqb b 32

abbrev pub is_digit : ℕ → Bool
is_digit b = leb 48 b && leb b 57

-- the worth of a digit, where the byte is one
abbrev pub digit_in : ℕ → Option ℕ
digit_in b = cond (is_digit b) (Some (b - 48)) None

-- how many bytes in front pass a test
unfoldable pub span : (ℕ → Bool) → List ℕ → ℕ
span passes [] = 0
span passes (b ∷ bs) = cond (passes b) (suc (span passes bs)) 0

-- where the line that starts at a place ends
unfoldable pub line_end : List ℕ → ℕ → ℕ
line_end text at = at + span (λ b. not (is_newline b)) (drop at text)

-- "Words separated by one or more spaces": the first word from a place on; an empty one where there is none
unfoldable pub word_from : List ℕ → ℕ → Word
word_from line at =
    let start = at + span is_space (drop at line) in
    record { start = start; end = start + span (λ b. not (is_space b)) (drop start line) }

-- the worth of decimal digits, and whether all bytes are digits, at least one
unfoldable pub worth : ℕ → List ℕ → ℕ
worth sum [] = sum
worth sum (b ∷ bs) = worth (sum * 10 + (b - 48)) bs

abbrev pub are_digits : List ℕ → Bool
are_digits bs = ltb 0 (length bs) && eqb (span is_digit bs) (length bs)

-- the largest number that a u64 holds
abbrev pub most : ℕ
most = 2 ^ 64 - 1

-- "whole numbers in decimal, an optional `-` in front (no `+`), leading zeros allowed": sign and magnitude, or nothing. A magnitude
-- past a u64 is the largest that it holds.
abbrev pub number : Bool → ℕ → Number
number sign m = record { negative = sign; magnitude = m }

abbrev pub nought : Number
nought = number false 0

abbrev pub whole : Bool → ℕ → Option Number
whole sign m = Some (number sign m)

abbrev pub whole_of : Bool → List ℕ → Option Number
whole_of sign bs = cond (are_digits bs) (whole sign (min (worth 0 bs) most)) None

unfoldable pub number_of : List ℕ → Option Number
number_of bs = cond (eqb (get_or bs 0 0) 45) (whole_of true (drop 1 bs)) (whole_of false bs)

-- "A number that the library's type can't hold is passed as that type's largest value, or, below the range of a signed type, its least"
unfoldable pub as_unsigned : (largest : ℕ) → Bool → ℕ → ℕ
as_unsigned largest sign m = cond (sign && ltb 0 m) largest (min m largest)

unfoldable pub as_signed : Bool → ℕ → ℤ
as_signed sign m = signed_of sign (min m (cond sign (2 ^ 63) (2 ^ 63 - 1)))
