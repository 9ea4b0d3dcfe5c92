-- What the choice of a rule tells of its mode number: it was refused because the mode isn't 0 to 6, or it is the mode's rule.
-- Assumes nothing.
use Rattle.std.specs.Prelude.{Ok, Err}
use mathlib.Core.Path.{◌≡◌, refl, ap}
use mathlib.Core.Bool.{Bool, true, false, cond}
use mathlib.Core.List.{List, ◌∷◌}
use Prim.Native.Nat.{ℕ}
use native.Mathlib.Omega.{arith}
use Rattle.refusal.specs.declared.Refusal.{Refusal}
use Rattle.refusal.specs.declared.Refusal.TheVariants.{Mode}
use Rattle.refusal.specs.Number.{number_of, blamed_of}
use Rattle.refusal.specs.Rows.{Said, refuses, Row, row, first_row}
use Rattle.rounding.specs.declared.Rule.{Rule}
use Rattle.rounding.specs.Modes.{bad_mode, rule_of, choice_of}

-- a call whose first row is row 1: a refused choice is its answer, a chosen rule leaves the other rows
module _ {A : Type 0} (value : Said A) (rows : List Row) (mode : ℕ) where
  pub mode_refused : (r : Refusal) → choice_of mode ≡ Err r → first_row (row Mode (bad_mode mode) ∷ rows) value ≡ refuses (number_of r) (blamed_of r)
  unfolding choice_of
  mode_refused r e = at (bad_mode mode) e
    where
      at : (b : Bool) → cond b (Err Mode) (Ok (rule_of mode)) ≡ Err r → first_row (row Mode b ∷ rows) value ≡ refuses (number_of r) (blamed_of r)
      at true e = let same : Mode ≡ r = cc in ap (λ (x : Refusal). refuses (number_of x) (blamed_of x)) same
      at false e = let z : ◌≡◌ {A = ℕ} 0 1 = cc in absurd (omega arith)

  pub mode_chosen : (rule : Rule) → choice_of mode ≡ Ok rule → first_row (row Mode (bad_mode mode) ∷ rows) value ≡ first_row rows value
  unfolding choice_of
  mode_chosen rule e = at (bad_mode mode) e
    where
      at : (b : Bool) → cond b (Err Mode) (Ok (rule_of mode)) ≡ Ok rule → first_row (row Mode b ∷ rows) value ≡ first_row rows value
      at true e = let z : ◌≡◌ {A = ℕ} 0 1 = cc in absurd (omega arith)
      at false e = refl

pub rule_chosen : (mode : ℕ) (rule : Rule) → choice_of mode ≡ Ok rule → rule_of mode ≡ rule
unfolding choice_of
rule_chosen mode rule e = at (bad_mode mode) e
  where
    at : (b : Bool) → cond b (Err Mode) (Ok (rule_of mode)) ≡ Ok rule → rule_of mode ≡ rule
    at true e = let z : ◌≡◌ {A = ℕ} 0 1 = cc in absurd (omega arith)
    at false e = cc
