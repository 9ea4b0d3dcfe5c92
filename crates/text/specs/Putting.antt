-- The text of so many units at a scale, also where they are more than the largest amount's: sums of a report. Cited by `put_text`. Assumes nothing.
use Rattle.std.specs.Prelude.{Bool, cond, List, [], ℕ, ltb}
use Rattle.amount.specs.Amounts.{last_scale}
use Rattle.text.specs.Written.{spelled}

-- the text of an amount of that scale, and none at a scale that no amount has
abbrev pub units_text : Bool → (m scale : ℕ) → List ℕ
units_text sign m scale = cond (ltb last_scale scale) [] (spelled sign m scale)
