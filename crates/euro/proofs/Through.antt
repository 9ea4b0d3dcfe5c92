-- Every exchange goes through the euro: a euro amount is its own number in euro, with cents, and no exchange but that between two old units has another step. Row 13 at the
-- number in euro is the result's own row where the result is in euro, and no row where the amount is. Assumes nothing.
use mathlib.Core.Path.{◌≡◌, refl, sym, ◌∙◌, ap}
use mathlib.Core.Bool.{Bool, true, false, cond}
use mathlib.Core.List.{[], ◌∷◌}
use Prim.Native.Nat.{ℕ, ◌≤◌}
use borrow.Author.Tests.{le-ltb, eqb-true}
use lib.IntN.{ℤ}
use Rattle.refusal.specs.Rows.{Said, row, first_row}
use Rattle.refusal.specs.declared.Refusal.TheVariants.{Limit}
use Rattle.whole.specs.Whole.{magnitude_of, signed_of}
use Rattle.whole.proofs.Laws.{magnitude_signed}
use Rattle.currency.specs.declared.Currency.{Currency}
use Rattle.currency.specs.Table.{line_of, same}
use Rattle.currency.specs.Names.{EUR}
use Rattle.amount.specs.declared.Amount.{Amount}
use Rattle.amount.specs.Amounts.{largest, over_l}
use Rattle.euro.specs.Steps.{to_euro, from_euro, cents}
use Rattle.euro.specs.Conversion.{settled, exchanged}
use Rattle.euro.specs.Through.{decimals_of, into_euro, out_of_euro}
use Rattle.euro.proofs.Magnitudes.{to_euro_sign, from_euro_sign}

-- what follows the number in euro
abbrev pub onward : (decimals : ℕ) → Currency → ℤ → Said Amount
onward decimals to step = first_row (row Limit (over_l (magnitude_of step)) ∷ []) (settled to (out_of_euro decimals to step))

-- row 13 asked once more
twice : (to : Currency) (z : ℤ) → first_row (row Limit (over_l (magnitude_of z)) ∷ []) (settled to z) ≡ settled to z
twice to z = by (over_l (magnitude_of z)) refl
  where
    by : (b : Bool) → over_l (magnitude_of z) ≡ b → first_row (row Limit (over_l (magnitude_of z)) ∷ []) (settled to z) ≡ settled to z
    by true e = rw e
    by false e = rw e

-- THE LAW: the number in euro, and onward from it
pub through : (decimals : ℕ) (from to : Currency) (n : ℤ) → magnitude_of n ≤ largest → (from.0 ≡ to.0 → ⊥)
    → onward (decimals_of decimals from to) to (into_euro (decimals_of decimals from to) from n) ≡ exchanged decimals from to n
unfolding exchanged
through decimals from to n small differ = by (same from EUR) refl (same to EUR) refl
  where
    by : (s : Bool) → same from EUR ≡ s → (t : Bool) → same to EUR ≡ t
        → onward (decimals_of decimals from to) to (into_euro (decimals_of decimals from to) from n) ≡ exchanged decimals from to n
    by true e true f = absurd (differ (eqb-true from.0 EUR.0 e ∙ sym (eqb-true to.0 EUR.0 f)))
    by true e false f = rw (e, f, le-ltb largest (magnitude_of n) small)
    by false e true f = rw (e, f) (twice to (to_euro (line_of from) cents n))
    by false e false f = rw (e, f)

-- each way keeps the sign
module _ (decimals : ℕ) (sign : Bool) (m : ℕ) where
  own_sign : signed_of sign (magnitude_of (signed_of sign m)) ≡ signed_of sign m
  own_sign = ap (signed_of sign) (magnitude_signed sign m)

  pub into_sign : (from : Currency) → signed_of sign (magnitude_of (into_euro decimals from (signed_of sign m))) ≡ into_euro decimals from (signed_of sign m)
  into_sign from = by (same from EUR)
    where
      by : (s : Bool) → let z = cond s (signed_of sign m) (to_euro (line_of from) decimals (signed_of sign m)) in signed_of sign (magnitude_of z) ≡ z
      by true = own_sign
      by false = to_euro_sign (line_of from) decimals sign m

  pub out_sign : (to : Currency) → signed_of sign (magnitude_of (out_of_euro decimals to (signed_of sign m))) ≡ out_of_euro decimals to (signed_of sign m)
  out_sign to = by (same to EUR)
    where
      by : (s : Bool) → let z = cond s (signed_of sign m) (from_euro (line_of to) decimals (signed_of sign m)) in signed_of sign (magnitude_of z) ≡ z
      by true = own_sign
      by false = from_euro_sign (line_of to) decimals sign m
