-- Document 01, "Sum of two amounts", "Order", "Negation". Cited by `Amount::sum`, `Amount::order`, `Amount::negate`. Assumes nothing.
use Rattle.std.specs.Prelude.{cond, List, [], ◌∷◌, ℕ, max, ℤ, neg_ℤ, ◌+ℤ◌}
use Rattle.std.specs.Int.Signed.{lt_z}
use Rattle.refusal.specs.Rows.{Said, gives, Row, row, first_row}
use Rattle.refusal.specs.declared.Refusal.TheVariants.{Scale, Magnitude, Unknown, Differ}
use Rattle.whole.specs.Whole.{magnitude_of}
use Rattle.currency.specs.declared.Currency.{Currency}
use Rattle.currency.specs.Table.{unknown, differ}
use Rattle.amount.specs.declared.Amount.{Amount}
use Rattle.std.specs.declared.cmp.Ordering.{Ordering}
use Rattle.std.specs.declared.cmp.Ordering.TheVariants.{Less, Equal, Greater}
use Rattle.amount.specs.Amounts.{bad_scale, over_l, amount_rows, limited, raised_to}

-- the rows of a call with two amounts: 2, 3 and 4 at each, and 5, "two currencies that must agree differ"
unfoldable pub pair_rows : (s t m n : ℕ) → (c d : Currency) → List Row
pair_rows s t m n c d =
    row Scale (bad_scale s)
    ∷ row Scale (bad_scale t)
    ∷ row Magnitude (over_l m)
    ∷ row Magnitude (over_l n)
    ∷ row Unknown (unknown c)
    ∷ row Unknown (unknown d)
    ∷ row Differ (differ c d)
    ∷ []

abbrev pub rows_of_two : Amount → Amount → List Row
rows_of_two a b =
    pair_rows a.scale b.scale (magnitude_of a.coefficient) (magnitude_of b.coefficient) a.currency b.currency

-- "the greater of the two scales"
abbrev pub greater_scale : Amount → Amount → ℕ
greater_scale a b = max a.scale b.scale

-- "same currency, exact, at the greater of the two scales"
abbrev pub total : Amount → Amount → ℤ
total a b = raised_to (greater_scale a b) a +ℤ raised_to (greater_scale a b) b

unfoldable pub sum_said : Amount → Amount → Said Amount
sum_said a b =
    first_row (rows_of_two a b)
    (limited (total a b) (record { currency = a.currency; scale = greater_scale a b; coefficient = total a b }))

-- "Order: same currency, by worth, so 1.5 and 1.50 are equal"
abbrev pub compared : ℤ → ℤ → Ordering
compared x y = cond (lt_z x y) Less (cond (lt_z y x) Greater Equal)

unfoldable pub order_said : Amount → Amount → Said Ordering
order_said a b = first_row (rows_of_two a b) (gives (compared (raised_to (greater_scale a b) a) (raised_to (greater_scale a b) b)))

-- "Negation: exact"
unfoldable pub negate_said : Amount → Said Amount
negate_said a =
    first_row (amount_rows a.scale (magnitude_of a.coefficient) a.currency)
    (gives (record { currency = a.currency; scale = a.scale; coefficient = neg_ℤ a.coefficient }))
