-- Numbers in bytes. Document 02, Ask 3: "little-endian", "in two's complement". Cited by every promise on a statement. Assumes nothing.
use Rattle.std.specs.Prelude.{cond, List, [], ◌∷◌, ◌++◌, ℕ, zero, suc, ◌+◌, ◌*◌, ◌-◌, ◌/◌, ◌%◌, ◌^◌, ltb, ℤ, pos, negsuc, length, get_or, take, drop}

-- so many bytes of a number, "little-endian": the least first
unfoldable pub little_endian : (count number : ℕ) → List ℕ
little_endian zero n = []
little_endian (suc count) n = n % 256 ∷ little_endian count (n / 256)

-- the number of so many bytes from a place on
unfoldable pub number_at : List ℕ → (at count : ℕ) → ℕ
number_at bytes at zero = 0
number_at bytes at (suc count) = get_or bytes at 0 + 256 * number_at bytes (suc at) count

-- "in two's complement (8)": a number below 0 is held as 2^64 more (`negsuc n` is -(n + 1))
unfoldable pub word_of : ℤ → ℕ
word_of (pos n) = n
word_of (negsuc n) = 2 ^ 64 - 1 - n

-- and the number that such a word holds
unfoldable pub from_word : ℕ → ℤ
from_word w = cond (ltb w (2 ^ 63)) (pos w) (negsuc (2 ^ 64 - 1 - w))

-- a field: how many bytes it has, and the number in them
pub data Field : Type 0 where
  field : (count number : ℕ) → Field

-- fields one behind the other
unfoldable pub field_bytes : List Field → List ℕ
field_bytes [] = []
field_bytes (field count number ∷ fields) = little_endian count number ++ field_bytes fields

-- a list with others in it from a place on; what stands before and behind them stays
unfoldable pub pasted : (at : ℕ) → List ℕ → List ℕ → List ℕ
pasted at new old = take at old ++ (new ++ drop (at + length new) old)
