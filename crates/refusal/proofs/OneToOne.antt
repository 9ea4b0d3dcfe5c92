-- A refusal is known by its number and the date that it blames: two refusals that read alike are the same case. Assumes nothing.
use Rattle.std.specs.Prelude.{Result, Ok, Err, ⊤}
use mathlib.Core.Path.{◌≡◌, refl, sym, ◌∙◌, ap, ap₂}
use Prim.Native.Nat.{ℕ}
use native.Mathlib.Omega.{arith}
use Rattle.refusal.specs.declared.Blamed.TheVariants.{First, Second}
use Rattle.refusal.specs.declared.Refusal.{Refusal}
use Rattle.refusal.specs.declared.Refusal.TheVariants.{Mode, Scale, Magnitude, Unknown, Differ, Rate, Date, Days, Weights, Negative, Room, Refund, Limit, Malformed, NoNet, NoNumber, Newer}
use Rattle.refusal.specs.Number.{number_of, blamed_of}
use Rattle.refusal.specs.Rows.{Said, refuses, means, means_outcome}
use mathlib.Core.List.{[], ◌∷◌}
use lib.ListN.{get_or}

-- the case that a number and a blamed date stand for
abbrev case_of : ℕ → ℕ → Refusal
case_of n b =
    get_or (Limit ∷ Mode ∷ Scale ∷ Magnitude ∷ Unknown ∷ Differ ∷ Rate ∷ get_or (Limit ∷ Date First ∷ Date Second ∷ []) b Limit ∷ Days ∷ Weights ∷ Negative ∷ Room ∷ Refund ∷ Limit ∷ Malformed ∷ NoNet ∷ NoNumber ∷ Newer ∷ []) n Limit

back : (r : Refusal) → case_of (number_of r) (blamed_of r) ≡ r
back Mode = refl
back Scale = refl
back Magnitude = refl
back Unknown = refl
back Differ = refl
back Rate = refl
back (Date First) = refl
back (Date Second) = refl
back Days = refl
back Weights = refl
back Negative = refl
back Room = refl
back Refund = refl
back Limit = refl
back Malformed = refl
back NoNet = refl
back NoNumber = refl
back Newer = refl

pub same_case : (r s : Refusal) → number_of r ≡ number_of s → blamed_of r ≡ blamed_of s → r ≡ s
same_case r s number blamed = sym (back r) ∙ ap₂ case_of number blamed ∙ back s

pub same_refusal : {A : Type 0} (r s : Refusal) → ◌≡◌ {A = Said A} (refuses (number_of r) (blamed_of r)) (refuses (number_of s) (blamed_of s)) → r ≡ s
same_refusal r s e = same_case r s (cc) (cc)

-- two answers that say the same are the same
pub same_answer : {A : Type 0} (r s : Result A Refusal) → means r ≡ means s → r ≡ s
same_answer (Ok v) (Ok w) e = cc
same_answer (Ok v) (Err s) e = let z : ◌≡◌ {A = ℕ} 0 1 = cc in absurd (omega arith)
same_answer (Err r) (Ok w) e = let z : ◌≡◌ {A = ℕ} 0 1 = cc in absurd (omega arith)
same_answer {A} (Err r) (Err s) e = ap Err (same_refusal {A = A} r s e)

-- what a promise says of an answer leaves one
pub one_said : {A : Type 0} (r s : Result A Refusal) (said : Said A) → means r ≡ said → means s ≡ said → r ≡ s
one_said r s said p q = same_answer r s (p ∙ sym q)

-- two outcomes that say the same are the same
pub same_outcome : {A : Type 0} (o p : Result ⊤ Refusal) (v w : A) → means_outcome o v ≡ means_outcome p w → o ≡ p
same_outcome (Ok t) (Ok u) v w e = refl
same_outcome (Ok t) (Err r) v w e = let z : ◌≡◌ {A = ℕ} 0 1 = cc in absurd (omega arith)
same_outcome (Err r) (Ok t) v w e = let z : ◌≡◌ {A = ℕ} 0 1 = cc in absurd (omega arith)
same_outcome {A} (Err r) (Err s) v w e = ap Err (same_refusal {A = A} r s e)
