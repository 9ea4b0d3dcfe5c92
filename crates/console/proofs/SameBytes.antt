-- The comparison of two slices is that of two words, byte by byte. Assumes nothing.
use Rattle.std.proofs.Common.{◌≡◌, ℕ, ◌&&◌, List, [], ◌∷◌, refl, ap, eqb}
use Rattle.std.specs.Cmp.Lexicographic.{pointwise}
use Rattle.console.specs.Verbs.{same_bytes}

pub pointwise_is_same : (a b : List ℕ) → pointwise eqb a b ≡ same_bytes a b
unfolding same_bytes
pointwise_is_same [] [] = refl
pointwise_is_same [] (b ∷ bs) = refl
pointwise_is_same (a ∷ rest) [] = refl
pointwise_is_same (a ∷ rest) (b ∷ bs) = ap (λ t. eqb a b && t) (pointwise_is_same rest bs)
