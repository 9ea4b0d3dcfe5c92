-- Document 01, "Rescaling: exact to a greater scale, rounded by a given mode to a smaller one." Cited by `Amount::rescale`.
-- Assumes nothing.
use Rattle.std.specs.Prelude.{cond, List, [], ◌∷◌, ℕ, ◌-◌, ◌^◌, leb, ℤ}
use Rattle.refusal.specs.Rows.{Said, Row, row, first_row}
use Rattle.refusal.specs.declared.Refusal.TheVariants.{Mode, Scale, Magnitude, Unknown}
use Rattle.whole.specs.Whole.{magnitude_of}
use Rattle.rounding.specs.declared.Rule.{Rule}
use Rattle.rounding.specs.Modes.{bad_mode, rule_of}
use Rattle.rounding.specs.Leaf.{rounded}
use Rattle.currency.specs.declared.Currency.{Currency}
use Rattle.currency.specs.Table.{unknown}
use Rattle.amount.specs.declared.Amount.{Amount}
use Rattle.amount.specs.Amounts.{bad_scale, over_l, limited, raised_to}

-- the rows behind row 1: row 2 at the amount's scale and at the new one, 3 and 4
abbrev pub rescale_rows : (s t m : ℕ) → Currency → List Row
rescale_rows s t m c = row Scale (bad_scale s) ∷ row Scale (bad_scale t) ∷ row Magnitude (over_l m) ∷ row Unknown (unknown c) ∷ []

-- the coefficient at scale t
unfoldable pub rescaled : Rule → ℕ → Amount → ℤ
rescaled rule t a = cond (leb a.scale t) (raised_to t a) (rounded rule a.coefficient (10 ^ (a.scale - t)))

abbrev pub rescale_by_rule : Rule → ℕ → Amount → Said Amount
rescale_by_rule rule t a =
    first_row (rescale_rows a.scale t (magnitude_of a.coefficient) a.currency)
    (limited (rescaled rule t a) (record { currency = a.currency; scale = t; coefficient = rescaled rule t a }))

unfoldable pub rescale_said : Amount → (scale mode : ℕ) → Said Amount
rescale_said a t mode = first_row (row Mode (bad_mode mode) ∷ []) (rescale_by_rule (rule_of mode) t a)
