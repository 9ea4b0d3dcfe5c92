-- Council Regulation (EC) No 1103/97, articles 4 and 5, and document 01, "Euro steps": the two steps, with the line of the table
-- as a parameter. Cited by `convert`. Assumes nothing.
use Rattle.std.specs.Prelude.{ℕ, ◌+◌, ◌*◌, ◌^◌, ℤ, pos, ◌*ℤ◌}
use Rattle.rounding.specs.declared.Rule.TheVariants.{HalfUp}
use Rattle.rounding.specs.Leaf.{rounded}
use Rattle.currency.specs.declared.Line.{Line}

-- Article 4(1) and 4(2): the rate K / 10^k keeps its six figures and isn't rounded. Article 4(3): "inverse rates aren't used", so
-- that an old unit is divided by the rate: n / 10^digits old units are n x 10^k / (10^digits x K) euro.
-- Article 5: rounded to the nearest, at the half up; for negative amounts away from zero (house rule): HALF_UP.
unfoldable pub to_euro : Line → (decimals : ℕ) → ℤ → ℤ
to_euro line decimals n = rounded HalfUp (n *ℤ pos (10 ^ (line.places + decimals))) (line.figures * 10 ^ line.digits)

-- Article 4(3): a euro amount at so many decimals is multiplied by the rate; article 5: rounded to the unit's digits (house rule)
unfoldable pub from_euro : Line → (decimals : ℕ) → ℤ → ℤ
from_euro line decimals n = rounded HalfUp (n *ℤ pos (line.figures * 10 ^ line.digits)) (10 ^ (line.places + decimals))

-- "round to 2 decimals"; article 4(4): through the euro "round to 3 decimals (the Regulation asks for not less than three)"
abbrev pub cents : ℕ
cents = 2

abbrev pub step_decimals : ℕ
step_decimals = 3

-- document 02, Ask 7: "The caller may also choose 3 to 6 decimals for the euro step"
abbrev pub fewest_decimals : ℕ
fewest_decimals = 3

abbrev pub most_decimals : ℕ
most_decimals = 6
