-- Each single step is at most half a unit of its scale from the exact worth, since HALF_UP gives a nearest integer: the distances are
-- over the step's divisor. Assumes nothing.
use Prim.Native.Nat.{ℕ, ◌+◌, ◌*◌, ◌≤◌, ◌<◌, ◌^◌}
use native.Mathlib.Nat.{one-le-pow, mul-pos}
use native.Mathlib.Omega.{arith}
use lib.IntN.{ℤ, pos, ◌*ℤ◌}
use Rattle.rounding.proofs.Apart.{distance}
use Rattle.rounding.proofs.Nearest.{half_up, half_distance}
use Rattle.currency.specs.declared.Currency.{Currency}
use Rattle.currency.specs.declared.Line.{Line}
use Rattle.currency.specs.Table.{last_currency, line_of}
use Rattle.currency.proofs.Tables.{in_table}
use Rattle.euro.specs.Steps.{to_euro, from_euro}

-- every line of the table has a rate
pub has_rate : (currency : Currency) → currency.0 ≤ last_currency → 0 < (line_of currency).figures
has_rate currency known = omega (arith, in_table currency known)

module _ (l : Line) (rate : 0 < l.figures) (decimals : ℕ) (n : ℤ) where
  pub to_euro_near :
      2 * distance (n *ℤ pos (10 ^ (l.places + decimals))) (to_euro l decimals n *ℤ pos (l.figures * 10 ^ l.digits)) ≤ l.figures * 10 ^ l.digits
  unfolding to_euro
  to_euro_near =
      half_distance half_up (n *ℤ pos (10 ^ (l.places + decimals))) (l.figures * 10 ^ l.digits) (mul-pos rate (one-le-pow l.digits 10 (omega arith)))

  pub from_euro_near :
      2 * distance (n *ℤ pos (l.figures * 10 ^ l.digits)) (from_euro l decimals n *ℤ pos (10 ^ (l.places + decimals))) ≤ 10 ^ (l.places + decimals)
  unfolding from_euro
  from_euro_near =
      half_distance half_up (n *ℤ pos (l.figures * 10 ^ l.digits)) (10 ^ (l.places + decimals)) (one-le-pow (l.places + decimals) 10 (omega arith))
