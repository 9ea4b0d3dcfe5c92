-- Document 02, Ask 7: "The rounding leaf then takes a numerator given as a product of two factors, each up to 10^18 in magnitude, and a divisor
-- from 1 to 10^18". Document 01, "Refusal numbers", rows 1, 3, 6 and 13 at a plain quotient, and its value. Cited by `plain_quotient`.
-- Assumes nothing.
use Rattle.std.specs.Prelude.{List, [], ◌∷◌, ℕ, ◌^◌, ltb, ℤ, ◌*ℤ◌}
use Rattle.refusal.specs.Rows.{Said, gives, Row, row, first_row}
use Rattle.refusal.specs.declared.Refusal.TheVariants.{Mode, Magnitude, Rate, Limit}
use Rattle.whole.specs.Whole.{magnitude_of}
use Rattle.rounding.specs.Modes.{bad_mode, rule_of}
use Rattle.rounding.specs.Leaf.{rounded}

abbrev pub limit : ℕ
limit = 10 ^ 18

-- the rows behind row 1, by the factors' magnitudes, the divisor and the rounded quotient's magnitude: row 3, "a factor's magnitude is over 10^18"; row 6,
-- "a plain quotient's divisor isn't 1 to 10^18"; "if the rounded quotient's magnitude is over 10^18 the leaf gives 13, and only then"
unfoldable pub plain_rows : (a b d quotient : ℕ) → List Row
plain_rows a b d quotient =
    row Magnitude (ltb limit a)
    ∷ row Magnitude (ltb limit b)
    ∷ row Rate (ltb d 1)
    ∷ row Rate (ltb limit d)
    ∷ row Limit (ltb limit quotient)
    ∷ []

-- what they say of factors with these magnitudes and their rounded quotient
abbrev pub behind_mode : (a b d : ℕ) → (quotient : ℤ) → Said ℤ
behind_mode a b d quotient = first_row (plain_rows a b d (magnitude_of quotient)) (gives quotient)

-- a x b / d rounded by the mode
unfoldable pub quotient_of : (mode : ℕ) (a b : ℤ) (d : ℕ) → ℤ
quotient_of mode a b d = rounded (rule_of mode) (a *ℤ b) d

-- every row, row 1 first
abbrev pub all_rows : ℕ → (a b : ℤ) → ℕ → List Row
all_rows mode a b d = row Mode (bad_mode mode) ∷ plain_rows (magnitude_of a) (magnitude_of b) d (magnitude_of (quotient_of mode a b d))

unfoldable pub plain_said : ℕ → (a b : ℤ) → ℕ → Said ℤ
plain_said mode a b d = first_row (all_rows mode a b d) (gives (quotient_of mode a b d))
