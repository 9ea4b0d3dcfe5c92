-- A word is the one whose length and bytes it has: one of another length, or with another first byte, is not the same. Assumes nothing.
use Rattle.std.proofs.Common.{◌≡◌, ◌≢◌, Bool, true, false, ◌&&◌, List, [], ◌∷◌, ℕ, suc, length, get_or, arith, rules, refl, eqb, ap, ◌∙◌}
use Rattle.std.proofs.Math.Bool.{and-false}
use Rattle.std.proofs.lemmas.Slice.Eq.{text_from_reads, HasBytesAt, IsBytesEq, compares_Decides}
use Rattle.console.specs.Verbs.{same_bytes}

compares : IsBytesEq same_bytes
unfolding same_bytes
compares = search rules

pub is_same : (word other : List ℕ) → length word ≡ length other → HasBytesAt word 0 other → same_bytes word other ≡ true
is_same word other l b = (compares_Decides same_bytes compares word other).1 (text_from_reads word other l b)

pub other_length : (word other : List ℕ) → length word ≢ length other → same_bytes word other ≡ false
unfolding same_bytes
other_length [] [] h = absurd (h refl)
other_length [] (b ∷ bs) h = refl
other_length (a ∷ rest) [] h = refl
other_length (a ∷ rest) (b ∷ bs) h = ap (λ (x : Bool). eqb a b && x) (other_length rest bs (λ e. h (ap suc e))) ∙ and-false (eqb a b)

pub other_first : (word : List ℕ) (b : ℕ) (bs : List ℕ) → get_or word 0 0 ≢ b → same_bytes word (b ∷ bs) ≡ false
unfolding same_bytes
other_first [] b bs h = refl
other_first (a ∷ rest) b bs h = grind arith
