-- The columns' rows by capped magnitudes are the rows of the columns, and what they let pass is each column's coefficient. Assumes nothing.
use Rattle.std.specs.Prelude.{Result, Ok, Err, ⊤}
use mathlib.Core.Path.{◌≡◌, refl, sym, ◌∙◌, ap, ap₂}
use mathlib.Core.Bool.{false}
use mathlib.Core.List.{List}
use Prim.Native.Nat.{ℕ, ◌≤◌}
use borrow.Author.Tests.{ltb-false}
use lib.IntN.{ℤ}
use lib.Ieee.{binary64, of_bits}
use Rattle.refusal.specs.declared.Refusal.{Refusal}
use Rattle.refusal.specs.Number.{number_of, blamed_of}
use Rattle.refusal.specs.Rows.{Said, gives, refuses, Row, check_of}
use Rattle.refusal.proofs.Check.{passed, refused, clear}
use Rattle.whole.specs.Whole.{signed_of}
use Rattle.rounding.specs.declared.Rule.{Rule}
use Rattle.currency.specs.declared.Currency.{Currency}
use Rattle.amount.specs.Amounts.{largest, over_l}
use Rattle.doubles.specs.declared.Amounts.{Amounts}
use Rattle.doubles.specs.Doubles.{coefficient_of, amount_at, column_rows, made_rows, amounts_of, made_said}
use Rattle.doubles.specs.declared.column.Column.{Column}
use Rattle.doubles.specs.Parts.{sign_of, capped, magnitude_at, column_at}
use Rattle.doubles.proofs.Columns.{same_row, capped_within, signed_by_bits}

-- a magnitude that its row lets pass is the column's own
pub let_through : (m : ℕ) → over_l (capped m) ≡ false → (capped m ≤ largest) × (capped m ≡ m)
let_through m e = (ltb-false largest (capped m) e, capped_within m (ltb-false largest m (sym (same_row m) ∙ e)))

module _ (rule : Rule) (currency : Currency) (scale net tax : ℕ) where
  abbrev n : Column
  n = column_at rule scale net

  abbrev t : Column
  t = column_at rule scale tax

  abbrev pub held : List Row
  held = column_rows n.m t.m n.numberless t.numberless

  -- the check of the columns as they were read
  pub asked : (x y : Column) (r : Result ⊤ Refusal) → x ≡ n → y ≡ t → r ≡ check_of (column_rows x.m y.m x.numberless y.numberless) → r ≡ check_of held
  asked x y r p q e = e ∙ ap₂ (λ (u v : Column). check_of (column_rows u.m v.m u.numberless v.numberless)) p q

  same_rows : held ≡ made_rows rule scale (of_bits binary64 net) (of_bits binary64 tax)
  unfolding column_rows
  same_rows = rw (same_row (magnitude_at rule scale (of_bits binary64 net)), same_row (magnitude_at rule scale (of_bits binary64 tax))) refl

  abbrev said : Said Amounts
  said = made_said rule currency scale (of_bits binary64 net) (of_bits binary64 tax)

  abbrev value : Amounts
  value = amounts_of rule currency scale (of_bits binary64 net) (of_bits binary64 tax)

  pub made_refused : (r : Refusal) → check_of held ≡ Err r → said ≡ refuses (number_of r) (blamed_of r)
  made_refused r e =
      refused (gives value) (made_rows rule scale (of_bits binary64 net) (of_bits binary64 tax)) r (ap check_of (sym same_rows) ∙ e)

  pub within : check_of held ≡ Ok tt → (n.m ≤ largest) × (t.m ≤ largest)
  unfolding column_rows
  within e =
      let none = clear held e in
      ((let_through (magnitude_at rule scale (of_bits binary64 net)) none.0).0, (let_through (magnitude_at rule scale (of_bits binary64 tax)) none.1.0).0)

  -- a column's amount, by its sign and its capped magnitude
  own : (bits : ℕ) → over_l (column_at rule scale bits).m ≡ false
      → signed_of (sign_of bits) (column_at rule scale bits).m ≡ coefficient_of rule scale (of_bits binary64 bits)
  own bits e =
      ap (signed_of (sign_of bits)) (let_through (magnitude_at rule scale (of_bits binary64 bits)) e).1 ∙ sym (signed_by_bits rule scale bits)

  -- both amounts
  pub both : check_of held ≡ Ok tt
      → gives (record { net = amount_at currency scale (signed_of n.negative n.m); tax = amount_at currency scale (signed_of t.negative t.m) }) ≡ said
  unfolding column_rows
  both e =
      let none = clear held e in
      ap₂ (λ (a b : ℤ). gives (record { net = amount_at currency scale a; tax = amount_at currency scale b })) (own net none.0) (own tax none.1.0)
      ∙ sym (passed (gives value) (made_rows rule scale (of_bits binary64 net) (of_bits binary64 tax)) (ap check_of (sym same_rows) ∙ e))
