-- The negative amount converts to the negative answer, and is refused with the same number: HALF_UP does not look at the sign, and the
-- limits are on magnitudes. Assumes nothing.
use mathlib.Core.Path.{◌≡◌, refl, sym, ◌∙◌, ap}
use mathlib.Core.Bool.{Bool, true, false, cond}
use mathlib.Core.List.{List, [], ◌∷◌}
use Prim.Native.Nat.{ℕ, zero, suc, ◌+◌, ◌*◌, ◌^◌}
use native.Mathlib.Nat.{zero-mul}
use lib.IntN.{ℤ, pos, negsuc, neg_ℤ, neg_ℤ-neg_ℤ, ◌*ℤ◌}
use Rattle.refusal.specs.Rows.{Said, gives, refuses, Row, row, first_row}
use Rattle.refusal.specs.declared.Refusal.TheVariants.{Limit}
use Rattle.whole.specs.Whole.{magnitude_of}
use Rattle.whole.proofs.Laws.{magnitude_opposite}
use Rattle.rounding.specs.declared.Rule.TheVariants.{HalfUp}
use Rattle.rounding.specs.Leaf.{rounded}
use Rattle.rounding.proofs.Opposite.{opposite}
use Rattle.currency.specs.declared.Currency.{Currency}
use Rattle.currency.specs.declared.Line.{Line}
use Rattle.currency.specs.Table.{line_of, same}
use Rattle.currency.specs.Names.{EUR}
use Rattle.amount.specs.declared.Amount.{Amount}
use Rattle.amount.specs.Amounts.{over_l}
use Rattle.euro.specs.Steps.{to_euro, from_euro, cents, step_decimals}
use Rattle.euro.specs.Conversion.{convert_rows, settled, through_euro, exchanged, converted, convert_by_said, convert_said}

opposite_times : (n : ℤ) (f : ℕ) → neg_ℤ n *ℤ pos f ≡ neg_ℤ (n *ℤ pos f)
opposite_times (pos zero) f = rw zero-mul
opposite_times (pos (suc n)) f = refl
opposite_times (negsuc n) f = sym (neg_ℤ-neg_ℤ (pos (suc n * f)))

rounded_opposite : (n : ℤ) (f d : ℕ) → rounded HalfUp (neg_ℤ n *ℤ pos f) d ≡ neg_ℤ (rounded HalfUp (n *ℤ pos f) d)
rounded_opposite n f d = ap (λ (z : ℤ). rounded HalfUp z d) (opposite_times n f) ∙ opposite HalfUp (n *ℤ pos f) d

module _ (l : Line) (decimals : ℕ) (n : ℤ) where
  pub to_euro_opposite : to_euro l decimals (neg_ℤ n) ≡ neg_ℤ (to_euro l decimals n)
  unfolding to_euro
  to_euro_opposite = rounded_opposite n (10 ^ (l.places + decimals)) (l.figures * 10 ^ l.digits)

  pub from_euro_opposite : from_euro l decimals (neg_ℤ n) ≡ neg_ℤ (from_euro l decimals n)
  unfolding from_euro
  from_euro_opposite = rounded_opposite n (l.figures * 10 ^ l.digits) (10 ^ (l.places + decimals))

abbrev pub negated : Amount → Amount
negated a = record { currency = a.currency; scale = a.scale; coefficient = neg_ℤ a.coefficient }

-- the negative of what was said, where it was an amount
abbrev pub negated_said : Said Amount → Said Amount
negated_said (gives a) = gives (negated a)
negated_said (refuses number blamed) = refuses number blamed

rows_opposite : (rows : List Row) (v w : Said Amount) → v ≡ negated_said w → first_row rows v ≡ negated_said (first_row rows w)
rows_opposite [] v w e = e
rows_opposite (row r true ∷ rows) v w e = refl
rows_opposite (row r false ∷ rows) v w e = rows_opposite rows v w e

-- row 13 at z
limit_opposite : (z : ℤ) (v w : Said Amount) → v ≡ negated_said w
    → first_row (row Limit (over_l (magnitude_of (neg_ℤ z))) ∷ []) v ≡ negated_said (first_row (row Limit (over_l (magnitude_of z)) ∷ []) w)
limit_opposite z v w e =
    ap (λ (m : ℕ). first_row (row Limit (over_l m) ∷ []) v) (magnitude_opposite z) ∙ rows_opposite (row Limit (over_l (magnitude_of z)) ∷ []) v w e

cond_opposite : (b : Bool) (v v' w w' : Said Amount) → v' ≡ negated_said v → w' ≡ negated_said w → cond b v' w' ≡ negated_said (cond b v w)
cond_opposite true v v' w w' e f = e
cond_opposite false v v' w w' e f = f

settled_opposite : (to : Currency) (n : ℤ) → settled to (neg_ℤ n) ≡ negated_said (settled to n)
settled_opposite to n = limit_opposite n _ _ refl

module _ (decimals : ℕ) (from to : Currency) (n : ℤ) where
  through_opposite : through_euro decimals from to (neg_ℤ n) ≡ negated_said (through_euro decimals from to n)
  through_opposite =
      let step = to_euro (line_of from) decimals n in
      rw (to_euro_opposite (line_of from) decimals n)
      (limit_opposite step (settled to (from_euro (line_of to) decimals (neg_ℤ step))) (settled to (from_euro (line_of to) decimals step))
      (ap (settled to) (from_euro_opposite (line_of to) decimals step) ∙ settled_opposite to (from_euro (line_of to) decimals step)))

  exchanged_opposite : exchanged decimals from to (neg_ℤ n) ≡ negated_said (exchanged decimals from to n)
  unfolding exchanged
  exchanged_opposite =
      cond_opposite (same from EUR) _ _ _ _
      (ap (settled to) (from_euro_opposite (line_of to) cents n) ∙ settled_opposite to (from_euro (line_of to) cents n))
      (cond_opposite (same to EUR) _ _ _ _
      (ap (settled to) (to_euro_opposite (line_of from) cents n) ∙ settled_opposite to (to_euro (line_of from) cents n))
      through_opposite)

pub convert_by_opposite : (a : Amount) (to : Currency) (decimals : ℕ) → convert_by_said (negated a) to decimals ≡ negated_said (convert_by_said a to decimals)
unfolding convert_by_said converted
convert_by_opposite a to decimals =
    rw (magnitude_opposite a.coefficient)
    (rows_opposite (convert_rows decimals a.scale (magnitude_of a.coefficient) a.currency to) (converted decimals (negated a) to) (converted decimals a to)
    (cond_opposite (same a.currency to) _ _ _ _ refl (exchanged_opposite decimals a.currency to a.coefficient)))

pub convert_opposite : (a : Amount) (to : Currency) → convert_said (negated a) to ≡ negated_said (convert_said a to)
unfolding convert_said
convert_opposite a to = convert_by_opposite a to step_decimals
