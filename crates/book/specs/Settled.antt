-- Document 02, Ask 9: "sixteen settled totals". Each is a signed number, as the net total is, so that a given book with a negative one can be
-- refused: a sum of such numbers is that of those from 0 on, less the magnitudes of those below 0. Cited by the rows of a given book, by a
-- posting's and by a new card. Assumes nothing.
use Rattle.std.specs.Prelude.{Bool, true, false, cond, List, [], ◌∷◌, ℕ, suc, ◌+◌, ltb, ℤ, pos, negsuc, ◌+ℤ◌, drop}
use Rattle.whole.specs.Whole.{negative, magnitude_of}
use Rattle.amount.specs.Amounts.{largest, over_l}

-- a number where it is from 0 on, and its magnitude where it is below: 0 else
abbrev pub up_of : ℤ → ℕ
up_of (pos n) = n
up_of (negsuc n) = 0

abbrev pub down_of : ℤ → ℕ
down_of (pos n) = 0
down_of (negsuc n) = suc n

-- the sums of these
unfoldable pub above : List ℤ → ℕ
above [] = 0
above (z ∷ zs) = up_of z + above zs

unfoldable pub below : List ℤ → ℕ
below [] = 0
below (z ∷ zs) = down_of z + below zs

-- some number of the list is such
unfoldable pub some_of : (ℤ → Bool) → List ℤ → Bool
some_of such [] = false
some_of such (z ∷ zs) = cond (such z) true (some_of such zs)

-- "a settled total is negative", "or over L": by its magnitude, as the table has it of the net total
abbrev pub any_negative : List ℤ → Bool
any_negative = some_of negative

abbrev pub far_off : ℤ → Bool
far_off z = over_l (magnitude_of z)

abbrev pub any_over : List ℤ → Bool
any_over = some_of far_off

-- "a settled total past its count": one that isn't 0
abbrev pub not_nought : ℤ → Bool
not_nought z = ltb 0 (magnitude_of z)

abbrev pub past_count : ℕ → List ℤ → Bool
past_count count zs = some_of not_nought (drop count zs)

-- numbers that "sum to more than L"
abbrev pub sum_over : List ℤ → Bool
sum_over zs = ltb (largest + below zs) (above zs)

-- "adds the old card's running totals to them", place by place
unfoldable pub added_to : List ℤ → List ℕ → List ℤ
added_to [] ts = []
added_to (z ∷ zs) [] = z ∷ zs
added_to (z ∷ zs) (t ∷ ts) = (z +ℤ pos t) ∷ added_to zs ts
