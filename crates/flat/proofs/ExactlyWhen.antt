-- The number that C reads is 0 exactly where the call is accepted: no refusal has the number 0. Assumes nothing.
use mathlib.Core.Path.{◌≡◌, refl, ap}
use mathlib.Core.Bool.{true, false}
use mathlib.Core.List.{List, [], ◌∷◌}
use mathlib.Core.Logic.{◌↔◌}
use native.Mathlib.Omega.{arith}
use Rattle.refusal.specs.Number.{number_of}
use Rattle.refusal.specs.Rows.{Said, gives, Row, row, first_row}
use Rattle.refusal.specs.declared.Refusal.{Refusal}
use Rattle.refusal.specs.declared.Refusal.TheVariants.{Mode, Scale, Magnitude, Unknown, Differ, Rate, Date, Days, Weights, Negative, Room, Refund, Limit, Malformed, NoNet, NoNumber, Newer}
use Rattle.flat.specs.Answers.{refusal_of}

never_nought : (r : Refusal) → number_of r ≡ 0 → ⊥
never_nought Mode e = omega arith
never_nought Scale e = omega arith
never_nought Magnitude e = omega arith
never_nought Unknown e = omega arith
never_nought Differ e = omega arith
never_nought Rate e = omega arith
never_nought (Date d) e = omega arith
never_nought Days e = omega arith
never_nought Weights e = omega arith
never_nought Negative e = omega arith
never_nought Room e = omega arith
never_nought Refund e = omega arith
never_nought Limit e = omega arith
never_nought Malformed e = omega arith
never_nought NoNet e = omega arith
never_nought NoNumber e = omega arith
never_nought Newer e = omega arith

-- what the rows of a call say has the number 0 only where what stands behind them is said
pub passes : {A : Type 0} (rows : List Row) (said : Said A) → refusal_of (first_row rows said) ≡ 0 → first_row rows said ≡ said
passes [] said e = refl
passes (row r true ∷ rows) said e = absurd (never_nought r e)
passes (row r false ∷ rows) said e = passes rows said e

-- a call with these rows and this value is accepted, with the value, exactly where C reads 0
pub accepted_exactly_when : {A : Type 0} (rows : List Row) (value : A) → (refusal_of (first_row rows (gives value)) ≡ 0) ↔ (first_row rows (gives value) ≡ gives value)
accepted_exactly_when rows value = (passes rows (gives value), λ e. ap refusal_of e)
