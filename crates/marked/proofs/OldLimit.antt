-- Document 02, Ask 7: "Cases at the old L get their answers as before where that was accepted". Of every call only the number in `over_l` moved, so
-- that a row which holds now held before: where no row held, none holds, and the value is the same. Assumes nothing.
use mathlib.Core.Path.{◌≡◌, refl, ◌∙◌}
use mathlib.Core.Bool.{Bool, true, false}
use mathlib.Core.List.{List, [], ◌∷◌}
use Prim.Native.Nat.{ℕ}
use native.Mathlib.Omega.{arith}
use borrow.Author.Tests.{lt-ltb, ltb-true}
use lib.Dec.{ltb}
use Rattle.refusal.specs.declared.Refusal.{Refusal}
use Rattle.refusal.specs.declared.Refusal.TheVariants.{Scale, Magnitude, Unknown, Differ, Limit}
use Rattle.refusal.specs.Rows.{gives, Row, row, first_row}
use Rattle.whole.specs.Whole.{magnitude_of}
use Rattle.currency.specs.Table.{unknown, differ}
use Rattle.amount.specs.declared.Amount.{Amount}
use Rattle.amount.specs.Amounts.{bad_scale, over_l, amount_rows}
use Rattle.amount.specs.Sum.{pair_rows, total, sum_said, negate_said}
use Rattle.amount.proofs.ExactlyWhen.{turned, negate_rows, sum_rows, sum_rows_lem}
use Rattle.amount.proofs.SumLaws.{made}

-- document 01: "The largest magnitude of a coefficient, called L, is 99,999,999,999"
abbrev pub old_l : ℕ
old_l = 99999999999

abbrev pub over_old : ℕ → Bool
over_old m = ltb old_l m

-- what is over L now was over it before
pub over_before : (m : ℕ) → over_l m ≡ true → over_old m ≡ true
over_before m e = lt-ltb old_l m (omega (arith, ltb-true _ m e))

-- rows that hold hold before, place by place
pub data Fewer : (now before : List Row) → Type 0 where
  none : Fewer [] []
  also : (r : Refusal) (now before : Bool) (rows others : List Row) → (now ≡ true → before ≡ true) → Fewer rows others
      → Fewer (row r now ∷ rows) (row r before ∷ others)

-- THE LAW, for the rows of any call: the value that was given is given still
pub still_given : {A : Type 0} (x : A) (rows others : List Row) → Fewer rows others → first_row others (gives x) ≡ gives x
    → first_row rows (gives x) ≡ gives x
still_given x rows others none e = refl
still_given x rows others (also r true true rest before more fewer) e = let z : ◌≡◌ {A = ℕ} 0 1 = cc in absurd (omega arith)
still_given x rows others (also r true false rest before more fewer) e = let t : false ≡ true = more refl in let z : ◌≡◌ {A = ℕ} 0 1 = cc in absurd (omega arith)
still_given x rows others (also r false true rest before more fewer) e = let z : ◌≡◌ {A = ℕ} 0 1 = cc in absurd (omega arith)
still_given x rows others (also r false false rest before more fewer) e = still_given x rest before fewer e

-- a row that is as it was
same_row : (r : Refusal) (b : Bool) (rows others : List Row) → Fewer rows others → Fewer (row r b ∷ rows) (row r b ∷ others)
same_row r b rows others fewer = also r b b rows others (λ e. e) fewer

-- and one at a magnitude
limit_row_lem : (r : Refusal) (m : ℕ) (rows others : List Row) → Fewer rows others → Fewer (row r (over_l m) ∷ rows) (row r (over_old m) ∷ others)
limit_row_lem r m rows others fewer = also r (over_l m) (over_old m) rows others (over_before m) fewer

-- negation and a sum by the rows of document 01's L
abbrev pub old_negate_rows : Amount → List Row
old_negate_rows a = row Scale (bad_scale a.scale) ∷ row Magnitude (over_old (magnitude_of a.coefficient)) ∷ row Unknown (unknown a.currency) ∷ []

pub negate_as_before : (a : Amount) → first_row (old_negate_rows a) (gives (turned a)) ≡ gives (turned a) → negate_said a ≡ gives (turned a)
negate_as_before a e =
    let m = magnitude_of a.coefficient in
    (negate_rows a).by_rows
    ∙ still_given (turned a) (amount_rows a.scale m a.currency) (old_negate_rows a)
    (same_row Scale (bad_scale a.scale) _ _ (limit_row_lem Magnitude m _ _ (same_row Unknown (unknown a.currency) _ _ none))) e

abbrev pub old_sum_rows : Amount → Amount → List Row
old_sum_rows a b =
    row Scale (bad_scale a.scale)
    ∷ row Scale (bad_scale b.scale)
    ∷ row Magnitude (over_old (magnitude_of a.coefficient))
    ∷ row Magnitude (over_old (magnitude_of b.coefficient))
    ∷ row Unknown (unknown a.currency)
    ∷ row Unknown (unknown b.currency)
    ∷ row Differ (differ a.currency b.currency)
    ∷ row Limit (over_old (magnitude_of (total a b)))
    ∷ []

pub sum_as_before : (a b : Amount) → first_row (old_sum_rows a b) (gives (made a b)) ≡ gives (made a b) → sum_said a b ≡ gives (made a b)
unfolding pair_rows
sum_as_before a b e =
    (sum_rows_lem a b).by_rows
    ∙ still_given (made a b) (sum_rows a b) (old_sum_rows a b)
    (same_row Scale (bad_scale a.scale) _ _
    (same_row Scale (bad_scale b.scale) _ _
    (limit_row_lem Magnitude (magnitude_of a.coefficient) _ _
    (limit_row_lem Magnitude (magnitude_of b.coefficient) _ _
    (same_row Unknown (unknown a.currency) _ _
    (same_row Unknown (unknown b.currency) _ _
    (same_row Differ (differ a.currency b.currency) _ _
    (limit_row_lem Limit (magnitude_of (total a b)) _ _ none)))))))) e
