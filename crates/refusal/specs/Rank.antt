-- The order in which the rows of a call are asked. Document 01: "no row of a smaller number". Document 02 says of its own numbers: "Refusal 14
-- ..., given before 13", "15 comes after 13 in the order", 16 "given only where no lower number applies", 17 "before 14". Cited by the
-- law of "exactly when". Assumes nothing.
use Rattle.std.specs.Prelude.{cond, List, [], ◌∷◌, ℕ, suc, eqb}

-- the numbers, first asked first
abbrev pub asked : List ℕ
asked = 1 ∷ 2 ∷ 3 ∷ 4 ∷ 5 ∷ 6 ∷ 7 ∷ 8 ∷ 9 ∷ 10 ∷ 11 ∷ 12 ∷ 17 ∷ 14 ∷ 13 ∷ 15 ∷ 16 ∷ []

-- how many numbers of a list stand before n
abbrev pub before : ℕ → List ℕ → ℕ
before n [] = 0
before n (m ∷ ms) = cond (eqb m n) 0 (suc (before n ms))

-- a number's rank: its place in the order
abbrev pub rank_of : ℕ → ℕ
rank_of n = before n asked
