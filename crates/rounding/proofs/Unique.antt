-- What a promise says leaves one answer. A promise that is an equation `r ≡ e` (of `Rule` made of a mode number, `rises`, `class` and `round`) leaves e; the plain
-- quotient's says what its answer means, and two answers that mean the same are the same. Assumes nothing.
use Rattle.std.specs.Prelude.{Result}
use mathlib.Core.Path.{◌≡◌, sym, ◌∙◌}
use mathlib.Core.Logic.{◌↔◌}
use Prim.Native.Nat.{ℕ}
use lib.IntN.{ℤ}
use Rattle.refusal.specs.Rows.{Holds, means}
use Rattle.refusal.proofs.ExactlyWhen.{Given, NoneBelow, exactly_when}
use Rattle.refusal.proofs.OneToOne.{same_answer}
use Rattle.refusal.specs.declared.Refusal.{Refusal}
use Rattle.rounding.specs.Plain.{plain_rows, quotient_of, all_rows, plain_said}

-- an equation leaves one answer
pub one_answer : {A : Type 0} {r s e : A} → r ≡ e → s ≡ e → r ≡ s
one_answer p q = p ∙ sym q

pub one_plain_quotient : (mode : ℕ) (a b : ℤ) (d : ℕ) (r s : Result ℤ Refusal)
    → means r ≡ plain_said mode a b d → means s ≡ plain_said mode a b d → r ≡ s
one_plain_quotient mode a b d r s p q = same_answer r s (one_answer p q)

-- the rows stand in the table's order, so a number is given exactly when a row of it holds and no row before it does
pub plain_exactly_when : (mode : ℕ) (a b : ℤ) (d number : ℕ)
    → Given (quotient_of mode a b d) number (all_rows mode a b d) ↔ (Holds number (all_rows mode a b d) × NoneBelow number (all_rows mode a b d))
unfolding plain_rows
plain_exactly_when mode a b d number = exactly_when (quotient_of mode a b d) number (all_rows mode a b d) tt
