-- All rows of a conversion, row 13 at the euro step and at the result among them: they stand in the table's order, so a conversion gives a
-- number exactly when a row of it holds and no row before it in that order does. Assumes nothing.
use Rattle.std.specs.Prelude.{Ok}
use mathlib.Core.Path.{◌≡◌, refl, sym, ◌∙◌}
use mathlib.Core.Bool.{Bool, true, false, not, cond, ◌&&◌}
use mathlib.Core.List.{List, [], ◌∷◌, ◌++◌}
use Prim.Native.Nat.{ℕ}
use lib.IntN.{ℤ}
use Rattle.refusal.specs.declared.Refusal.TheVariants.{Limit}
use Rattle.refusal.specs.Rows.{Said, gives, Row, row, first_row, check_of}
use Rattle.refusal.proofs.Check.{behind, clear}
use Rattle.whole.specs.Whole.{magnitude_of}
use Rattle.currency.specs.declared.Currency.{Currency}
use Rattle.currency.specs.Table.{line_of, same}
use Rattle.currency.specs.Names.{EUR}
use Rattle.amount.specs.declared.Amount.{Amount}
use Rattle.amount.specs.Amounts.{over_l}
use Rattle.amount.proofs.ExactlyWhen.{ExactlyWhen, by_its_rows}
use Rattle.euro.specs.Steps.{to_euro, from_euro, cents, step_decimals}
use Rattle.euro.specs.Conversion.{convert_rows, settled, exchanged, converted, convert_by_said, convert_said}

-- the euro step between two old units, at so many decimals
abbrev pub step_of : ℕ → Amount → ℤ
step_of decimals a = to_euro (line_of a.currency) decimals a.coefficient

-- an amount in a currency, at its own digits
abbrev pub made : Currency → ℤ → Amount
made to n = record { currency = to; scale = (line_of to).digits; coefficient = n }

-- the amount that is given where no row holds
abbrev pub result_of : ℕ → Amount → Currency → Amount
result_of decimals a to =
    cond (same a.currency to) a
    (made to
    (cond (same a.currency EUR) (from_euro (line_of to) cents a.coefficient)
    (cond (same to EUR) (to_euro (line_of a.currency) cents a.coefficient) (from_euro (line_of to) decimals (step_of decimals a)))))

-- from an old unit to another
abbrev pub old_to_old : (from to : Currency) → Bool
old_to_old from to = not (same from to) && (not (same from EUR) && not (same to EUR))

-- "the result, the euro step .. has a magnitude over L"
abbrev pub limit_rows : ℕ → Amount → Currency → List Row
limit_rows decimals a to =
    row Limit (old_to_old a.currency to && over_l (magnitude_of (step_of decimals a)))
    ∷ row Limit (over_l (magnitude_of (result_of decimals a to).coefficient))
    ∷ []

abbrev pub given_rows : ℕ → Amount → Currency → List Row
given_rows decimals a to = convert_rows decimals a.scale (magnitude_of a.coefficient) a.currency to

abbrev pub all_rows : ℕ → Amount → Currency → List Row
all_rows decimals a to = given_rows decimals a to ++ limit_rows decimals a to

-- two values that agree where the rows let pass are said alike
agree : {A : Type 0} (rows : List Row) (v w : Said A) → (check_of rows ≡ Ok tt → v ≡ w) → first_row rows v ≡ first_row rows w
agree [] v w h = h refl
agree (row r true ∷ rows) v w h = refl
agree (row r false ∷ rows) v w h = agree rows v w h

-- what passed row 3
within : (decimals scale m : ℕ) (from to : Currency) → check_of (convert_rows decimals scale m from to) ≡ Ok tt → over_l m ≡ false
unfolding convert_rows
within decimals scale m from to e = (clear (convert_rows decimals scale m from to) e).1.1.1.1.0

-- the four cases of a conversion: the same currency, from the euro, to the euro, old to old
cases : (a : Amount) (to : Currency) (x y step z : ℤ) (same one other : Bool) → over_l (magnitude_of a.coefficient) ≡ false
    → cond same (gives a)
    (cond one (settled to x) (cond other (settled to y) (first_row (row Limit (over_l (magnitude_of step)) ∷ []) (settled to z))))
    ≡ first_row
    (row Limit ((not same && (not one && not other)) && over_l (magnitude_of step))
    ∷ row Limit (over_l (magnitude_of (cond same a (made to (cond one x (cond other y z)))).coefficient))
    ∷ [])
    (gives (cond same a (made to (cond one x (cond other y z)))))
cases a to x y step z true one other h = sym (rw h)
cases a to x y step z false true other h = refl
cases a to x y step z false false true h = refl
cases a to x y step z false false false h =
    sym (behind (gives (made to z)) (row Limit (over_l (magnitude_of step)) ∷ []) (row Limit (over_l (magnitude_of z)) ∷ []))

-- what the promise says is the first of these rows that holds, else the result
pub convert_by_said_lem : (a : Amount) (to : Currency) (decimals : ℕ) → convert_by_said a to decimals ≡ first_row (all_rows decimals a to) (gives (result_of decimals a to))
unfolding convert_by_said converted exchanged
convert_by_said_lem a to decimals =
    agree (given_rows decimals a to) (converted decimals a to) (first_row (limit_rows decimals a to) (gives (result_of decimals a to)))
    (λ passed. cases a to (from_euro (line_of to) cents a.coefficient) (to_euro (line_of a.currency) cents a.coefficient) (step_of decimals a)
    (from_euro (line_of to) decimals (step_of decimals a)) (same a.currency to) (same a.currency EUR) (same to EUR)
    (within decimals a.scale (magnitude_of a.coefficient) a.currency to passed))
    ∙ sym (behind (gives (result_of decimals a to)) (given_rows decimals a to) (limit_rows decimals a to))

pub convert_by_exactly_when : (a : Amount) (to : Currency) (decimals : ℕ) → ExactlyWhen (convert_by_said a to decimals) (all_rows decimals a to)
unfolding convert_rows
convert_by_exactly_when a to decimals = by_its_rows (record { by_rows = convert_by_said_lem a to decimals; rises = tt })

pub convert_exactly_when : (a : Amount) (to : Currency) → ExactlyWhen (convert_said a to) (all_rows step_decimals a to)
unfolding convert_said
convert_exactly_when a to = convert_by_exactly_when a to step_decimals
