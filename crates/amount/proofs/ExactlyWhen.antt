-- Every call's answer is the first of its rows that holds, else its value, and its rows stand in the table's order: so a call gives a number
-- exactly when a row of it holds and no row before it in that order does. Assumes nothing.
use mathlib.Core.Path.{◌≡◌, refl, sym, ◌∙◌, ap}
use mathlib.Core.List.{List, [], ◌∷◌, ◌++◌}
use mathlib.Core.Logic.{◌↔◌}
use Prim.Native.Nat.{ℕ}
use lib.Dec.{T}
use lib.IntN.{ℤ, neg_ℤ}
use Rattle.refusal.specs.declared.Refusal.TheVariants.{Mode, Limit}
use Rattle.refusal.specs.Rows.{Said, gives, refuses, Row, row, first_row, rising, Holds}
use Rattle.refusal.proofs.Check.{behind}
use Rattle.refusal.proofs.ExactlyWhen.{Given, NoneBelow, exactly_when}
use Rattle.whole.specs.Whole.{magnitude_of}
use Rattle.rounding.specs.Modes.{bad_mode, rule_of}
use Rattle.amount.specs.declared.Amount.{Amount}
use Rattle.amount.specs.Amounts.{over_l, amount_rows, limited}
use Rattle.amount.specs.Sum.{pair_rows, rows_of_two, total, sum_said, order_said, negate_said}
use Rattle.amount.specs.Rescaling.{rescale_rows, rescaled, rescale_said}
use Rattle.amount.proofs.ByWorth.{found}
use Rattle.amount.proofs.RescaleLaws.{moved}
use Rattle.amount.proofs.SumLaws.{made}

-- a call that these rows stop, in the table's order, and that gives this value where they don't
pub record Decides {A : Type 0} (said : Said A) (rows : List Row) (value : A) : Type 0 where
  pub by_rows : said ≡ first_row rows (gives value)
  pub rises : T (rising rows)

-- row 13 at a result
abbrev pub limit_row : ℤ → List Row
limit_row result = row Limit (over_l (magnitude_of result)) ∷ []

-- a call says number n
abbrev pub SaysNumber : {A : Type 0} → Said A → ℕ → Type 0
SaysNumber said n = (blamed : ℕ) × (said ≡ refuses n blamed)

-- THE LAW, for every call: it says a number exactly when a row of that number holds and none before it does
abbrev pub ExactlyWhen : {A : Type 0} → Said A → List Row → Type 0
ExactlyWhen said rows = (n : ℕ) → SaysNumber said n ↔ (Holds n rows × NoneBelow n rows)

pub by_its_rows : {A : Type 0} {said : Said A} {rows : List Row} {value : A} → Decides said rows value → ExactlyWhen said rows
unfolding Given
by_its_rows {rows = rows} {value = value} d n =
    let law = exactly_when value n rows d.rises in
    (λ (blamed, e). law.0 (blamed, sym d.by_rows ∙ e), λ h. let given = law.1 h in (given.0, d.by_rows ∙ given.1))

pub within_rows : (a : Amount) → Decides (limited a.coefficient a) (limit_row a.coefficient) a
within_rows a = record { by_rows = refl; rises = tt }

abbrev pub sum_rows : Amount → Amount → List Row
sum_rows a b = rows_of_two a b ++ limit_row (total a b)

pub sum_rows_lem : (a b : Amount) → Decides (sum_said a b) (sum_rows a b) (made a b)
unfolding sum_said pair_rows
sum_rows_lem a b = record { by_rows = sym (behind (gives (made a b)) (rows_of_two a b) (limit_row (total a b))); rises = tt }

pub order_rows : (a b : Amount) → Decides (order_said a b) (rows_of_two a b) (found a b)
unfolding order_said pair_rows
order_rows a b = record { by_rows = refl; rises = tt }

-- the amount with the opposite coefficient
abbrev pub turned : Amount → Amount
turned a = record { currency = a.currency; scale = a.scale; coefficient = neg_ℤ a.coefficient }

pub negate_rows : (a : Amount) → Decides (negate_said a) (amount_rows a.scale (magnitude_of a.coefficient) a.currency) (turned a)
unfolding negate_said
negate_rows a = record { by_rows = refl; rises = tt }

abbrev pub all_rescale_rows : Amount → (scale mode : ℕ) → List Row
all_rescale_rows a t mode =
    row Mode (bad_mode mode)
    ∷ (rescale_rows a.scale t (magnitude_of a.coefficient) a.currency ++ limit_row (rescaled (rule_of mode) t a))

pub rescale_rows_lem : (a : Amount) (scale mode : ℕ) → Decides (rescale_said a scale mode) (all_rescale_rows a scale mode) (moved (rule_of mode) scale a)
unfolding rescale_said
rescale_rows_lem a t mode =
    let v = gives (moved (rule_of mode) t a) in
    let rows = rescale_rows a.scale t (magnitude_of a.coefficient) a.currency in
    let last = limit_row (rescaled (rule_of mode) t a) in
    let first = row Mode (bad_mode mode) ∷ [] in
    record {
      by_rows = sym (behind v first (rows ++ last) ∙ ap (λ (x : Said Amount). first_row first x) (behind v rows last));
      rises = tt;
    }

-- each call
pub within_exactly_when : (a : Amount) → ExactlyWhen (limited a.coefficient a) (limit_row a.coefficient)
within_exactly_when a = by_its_rows (within_rows a)

pub sum_exactly_when : (a b : Amount) → ExactlyWhen (sum_said a b) (sum_rows a b)
sum_exactly_when a b = by_its_rows (sum_rows_lem a b)

pub order_exactly_when : (a b : Amount) → ExactlyWhen (order_said a b) (rows_of_two a b)
order_exactly_when a b = by_its_rows (order_rows a b)

pub negate_exactly_when : (a : Amount) → ExactlyWhen (negate_said a) (amount_rows a.scale (magnitude_of a.coefficient) a.currency)
negate_exactly_when a = by_its_rows (negate_rows a)

pub rescale_exactly_when : (a : Amount) (scale mode : ℕ) → ExactlyWhen (rescale_said a scale mode) (all_rescale_rows a scale mode)
rescale_exactly_when a scale mode = by_its_rows (rescale_rows_lem a scale mode)
