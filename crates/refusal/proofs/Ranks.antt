-- The order in which rows are asked, as the two documents word it. Assumes nothing.
use mathlib.Core.Path.{◌≡◌, refl}
use mathlib.Core.List.{[], ◌∷◌, map}
use Prim.Native.Nat.{◌<◌}
use native.Mathlib.Omega.{arith}
use Rattle.refusal.specs.Rank.{rank_of}

-- document 01, "no row of a smaller number": its numbers rise
pub base_order : map rank_of (1 ∷ 2 ∷ 3 ∷ 4 ∷ 5 ∷ 6 ∷ 7 ∷ 8 ∷ 9 ∷ 10 ∷ 11 ∷ 12 ∷ 13 ∷ []) ≡ 0 ∷ 1 ∷ 2 ∷ 3 ∷ 4 ∷ 5 ∷ 6 ∷ 7 ∷ 8 ∷ 9 ∷ 10 ∷ 11 ∷ 14 ∷ []
base_order = refl

-- document 02: 17 "before 14", 14 "given before 13", "15 comes after 13", 16 "only where no lower number applies"
pub added_order : (rank_of 12 < rank_of 17) × (rank_of 17 < rank_of 14) × (rank_of 14 < rank_of 13) × (rank_of 13 < rank_of 15) × (rank_of 15 < rank_of 16)
added_order = (omega arith, omega arith, omega arith, omega arith, omega arith)
