-- What a check that passed tells of its numbers: none of its rows holds, so each number is within its limit. Assumes nothing.
use Rattle.std.specs.Prelude.{Ok}
use mathlib.Core.Path.{◌≡◌, ◌∙◌, ap, ap₂}
use Prim.Native.Nat.{ℕ, ◌≤◌}
use borrow.Author.Tests.{le-ltb, eq-eqb, ltb-false, eqb-true, not-false}
use lib.Dec.{eqb}
use lib.IntN.{ℤ}
use mir.Syntax.{w64}
use mir.Val.{SFits, to_z, of_z}
use mir.ValLaws.{to_z-of_z}
use Rattle.refusal.specs.Rows.{check_of}
use Rattle.refusal.proofs.Check.{clear}
use Rattle.whole.specs.Whole.{magnitude_of}
use Rattle.currency.specs.declared.Currency.{Currency}
use Rattle.currency.specs.Table.{last_currency}
use Rattle.amount.specs.declared.Amount.{Amount}
use Rattle.amount.specs.Amounts.{largest, last_scale, amount_rows}
use Rattle.amount.specs.Sum.{pair_rows, rows_of_two}
use Rattle.amount.specs.Rescaling.{rescale_rows}

-- an amount's scale, its coefficient's magnitude and its currency number are within their limits
pub record Sound (scale m : ℕ) (currency : Currency) : Type 0 where
  pub scaled : scale ≤ last_scale
  pub within : m ≤ largest
  pub known : currency.0 ≤ last_currency

pub sound : (scale m : ℕ) (currency : Currency) → check_of (amount_rows scale m currency) ≡ Ok tt → Sound scale m currency
sound scale m currency e =
    let rows = clear (amount_rows scale m currency) e in
    record {
      scaled = ltb-false last_scale scale rows.0;
      within = ltb-false largest m rows.1.0;
      known = ltb-false last_currency currency.0 rows.1.1.0;
    }

-- and of two amounts the currencies agree
pub record Pair (s t m n : ℕ) (c d : Currency) : Type 0 where
  pub first : Sound s m c
  pub second : Sound t n d
  pub agree : c.0 ≡ d.0

pub pair : (s t m n : ℕ) (c d : Currency) → check_of (pair_rows s t m n c d) ≡ Ok tt → Pair s t m n c d
unfolding pair_rows
pair s t m n c d e =
    let scales = clear (pair_rows s t m n c d) e in
    let magnitudes = scales.1.1 in
    let currencies = magnitudes.1.1 in
    record {
      first = record {
        scaled = ltb-false last_scale s scales.0;
        within = ltb-false largest m magnitudes.0;
        known = ltb-false last_currency c.0 currencies.0;
      };
      second = record {
        scaled = ltb-false last_scale t scales.1.0;
        within = ltb-false largest n magnitudes.1.0;
        known = ltb-false last_currency d.0 currencies.1.0;
      };
      agree = eqb-true c.0 d.0 (not-false (eqb c.0 d.0) currencies.1.1.0);
    }

-- and the other way about: such a pair passes
pub pair_passes : (s t m n : ℕ) (c d : Currency) → Pair s t m n c d → check_of (pair_rows s t m n c d) ≡ Ok tt
unfolding pair_rows
pair_passes s t m n c d p =
    let a = p.first in
    let b = p.second in
    simp
    (le-ltb last_scale s a.scaled, le-ltb last_scale t b.scaled, le-ltb largest m a.within, le-ltb largest n b.within, le-ltb last_currency c.0 a.known, le-ltb last_currency d.0 b.known, eq-eqb c.0 d.0 p.agree)

-- of an amount and a new scale
pub rescalable : (s t m : ℕ) (c : Currency) → check_of (rescale_rows s t m c) ≡ Ok tt → Sound s m c × (t ≤ last_scale)
rescalable s t m c e =
    let rows = clear (rescale_rows s t m c) e in
    let kept : Sound s m c =
    record {
      scaled = ltb-false last_scale s rows.0;
      within = ltb-false largest m rows.1.1.0;
      known = ltb-false last_currency c.0 rows.1.1.1.0;
    } in
    (kept, ltb-false last_scale t rows.1.0)

-- the magnitude of a number that the machine read back
pub read_magnitude : (z : ℤ) (m : ℕ) → SFits w64 z → m ≡ magnitude_of (to_z w64 (of_z w64 z)) → m ≡ magnitude_of z
read_magnitude z m h e = e ∙ ap magnitude_of (to_z-of_z w64 z h)

-- and the rows of two amounts with such magnitudes
pub read_rows_lem : (a b : Amount) (m n : ℕ) → SFits w64 a.coefficient → SFits w64 b.coefficient
    → m ≡ magnitude_of (to_z w64 (of_z w64 a.coefficient)) → n ≡ magnitude_of (to_z w64 (of_z w64 b.coefficient))
    → check_of (pair_rows a.scale b.scale m n a.currency b.currency) ≡ check_of (rows_of_two a b)
read_rows_lem a b m n h k p q =
    ap₂ (λ (x y : ℕ). check_of (pair_rows a.scale b.scale x y a.currency b.currency)) (read_magnitude a.coefficient m h p)
    (read_magnitude b.coefficient n k q)
