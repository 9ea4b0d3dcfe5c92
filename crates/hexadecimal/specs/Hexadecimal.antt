-- The desk's paper: "HEX is an even number of the digits 0 to 9 and a to f (capitals too when read), .. or `-` for no bytes". Cited by `read_hex` and
-- `put_hex`. Assumes nothing.
use Rattle.std.specs.Prelude.{Option, Some, None, Bool, cond, ◌&&◌, ◌||◌, List, [], ◌∷◌, ℕ, ◌+◌, ◌-◌, ◌*◌, ◌/◌, ◌%◌, leb, ltb, eqb, length, get_or}
use Rattle.lines.specs.Lines.{span}
use Rattle.lines.specs.Texts.{put_at}

-- the worth of a digit: 0 to 9 are the bytes 48 to 57, A to F 65 to 70, a to f 97 to 102; another byte has 16
unfoldable pub worth_of : ℕ → ℕ
worth_of b =
    cond (leb 48 b && leb b 57) (b - 48)
    (cond (leb 65 b && leb b 70) (b - 55)
    (cond (leb 97 b && leb b 102) (b - 87)
    16))

abbrev pub is_digit : ℕ → Bool
is_digit b = ltb (worth_of b) 16

abbrev pub digit_in : ℕ → Option ℕ
digit_in b = cond (is_digit b) (Some (worth_of b)) None

-- each two digits are a byte, the first the sixteens
unfoldable pub bytes_of : List ℕ → List ℕ
bytes_of [] = []
bytes_of (a ∷ []) = []
bytes_of (a ∷ (b ∷ rest)) = (worth_of a * 16 + worth_of b) ∷ bytes_of rest

-- "an even number of the digits", some; "or `-` for no bytes"
unfoldable pub is_pairs : List ℕ → Bool
is_pairs word = ltb 0 (length word) && (eqb (length word % 2) 0 && eqb (span is_digit word) (length word))

unfoldable pub is_dash : List ℕ → Bool
is_dash word = eqb (length word) 1 && eqb (get_or word 0 0) 45

-- the words that are read, and the bytes of each
abbrev pub is_word : List ℕ → Bool
is_word word = is_dash word || is_pairs word

unfoldable pub bytes_in : List ℕ → List ℕ
bytes_in word = cond (is_dash word) [] (bytes_of word)

-- what a word is where the list has so many places
unfoldable pub decoded_of : (room : ℕ) → List ℕ → Option ℕ
decoded_of room word = cond (is_word word && leb (length (bytes_in word)) room) (Some (length (bytes_in word))) None

-- the list afterwards: the bytes stand at its front, where it has the places
unfoldable pub list_after : List ℕ → List ℕ → List ℕ
list_after bytes word = cond (is_word word) (put_at bytes 0 (bytes_in word)) bytes

abbrev pub count_in : Option ℕ → ℕ
count_in (Some count) = count
count_in None = 0

-- the digit of a number below 16, in small letters
unfoldable pub digit_of : ℕ → ℕ
digit_of n = cond (ltb n 10) (48 + n) (87 + n)

-- two digits to a byte
unfoldable pub digits_of : List ℕ → List ℕ
digits_of [] = []
digits_of (b ∷ bs) = digit_of (b / 16) ∷ (digit_of (b % 16) ∷ digits_of bs)

-- a word for every list of bytes
unfoldable pub hex_of : List ℕ → List ℕ
hex_of bytes = cond (eqb (length bytes) 0) (45 ∷ []) (digits_of bytes)
