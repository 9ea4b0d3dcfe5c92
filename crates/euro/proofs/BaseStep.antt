-- Document 01's conversion has document 01's rows: the step of 3 decimals is one of those that may be chosen, so that neither row of the step ever
-- holds for it. Assumes nothing.
use mathlib.Core.Path.{◌≡◌, refl}
use mathlib.Core.Bool.{Bool, true, false}
use mathlib.Core.List.{List, [], ◌∷◌}
use Prim.Native.Nat.{ℕ}
use Rattle.refusal.specs.Rows.{Said, Row, row, first_row}
use Rattle.refusal.specs.declared.Refusal.TheVariants.{Scale, Magnitude, Unknown}
use Rattle.whole.specs.Whole.{magnitude_of}
use Rattle.currency.specs.declared.Currency.{Currency}
use Rattle.currency.specs.Table.{unknown}
use Rattle.currency.specs.Digits.{not_own_digits}
use Rattle.amount.specs.declared.Amount.{Amount}
use Rattle.amount.specs.Amounts.{bad_scale, over_l}
use Rattle.euro.specs.Steps.{step_decimals}
use Rattle.euro.specs.Conversion.{convert_rows, converted, convert_by_said, convert_said}

-- rows 2, 3 and 4 of document 01
abbrev pub base_rows : (scale m : ℕ) → (from to : Currency) → List Row
base_rows scale m from to =
    row Scale (bad_scale scale)
    ∷ row Scale (not_own_digits from scale)
    ∷ row Magnitude (over_l m)
    ∷ row Unknown (unknown from)
    ∷ row Unknown (unknown to)
    ∷ []

-- two rows that do not hold, behind two others
two_fewer : {A : Type 0} (x y : Bool) (rows : List Row) (value : Said A)
    → first_row (row Scale x ∷ row Scale y ∷ row Scale false ∷ row Scale false ∷ rows) value ≡ first_row (row Scale x ∷ row Scale y ∷ rows) value
two_fewer true y rows value = refl
two_fewer false true rows value = refl
two_fewer false false rows value = refl

pub base_step : (a : Amount) (to : Currency)
    → convert_said a to ≡ first_row (base_rows a.scale (magnitude_of a.coefficient) a.currency to) (converted step_decimals a to)
unfolding convert_said convert_by_said convert_rows
base_step a to =
    two_fewer (bad_scale a.scale) (not_own_digits a.currency a.scale)
    (row Magnitude (over_l (magnitude_of a.coefficient)) ∷ row Unknown (unknown a.currency) ∷ row Unknown (unknown to) ∷ []) (converted step_decimals a to)
