-- From gross, net and tax are parts of a gross that is within L, so row 13 is never given: behind the rows 1 to 6 stands the value. Nor is it
-- given where a net is looked for. Assumes nothing.
use mathlib.Core.Path.{◌≡◌, refl, sym, ◌∙◌}
use Prim.Native.Nat.{ℕ, ◌+◌, ◌*◌, ◌-◌, ◌≤◌}
use native.Mathlib.Omega.{arith}
use borrow.Author.Rules.{rules}
use borrow.Author.Tests.{ltb-false}
use Rattle.refusal.specs.Rows.{Said, gives, refuses, first_row}
use Rattle.refusal.proofs.Check.{Clear, clear}
use Rattle.whole.specs.Whole.{negative, magnitude_of}
use Rattle.rounding.specs.declared.Rule.{Rule}
use Rattle.rounding.specs.Leaf.{rounded_magnitude}
use Rattle.rounding.specs.Modes.{rule_of}
use Rattle.amount.specs.declared.Amount.{Amount}
use Rattle.amount.specs.Amounts.{largest}
use Rattle.tax.specs.declared.Split.{Split}
use Rattle.tax.specs.Tax.{million, tax_rows, rows_taken, rows_made, from_gross, made, split_said, from_gross_said}
use Rattle.tax.specs.NetFor.{NetSaid, refused, found, none}
use Rattle.tax.proofs.Bounds.{at_most_all}
use Rattle.refusal.proofs.Joined.{let_pass, same_behind, not_given}
use Rattle.tax.proofs.Value.{made_given, gross_split}

pub made_from_gross : (rule : Rule) (gross : Amount) (r : ℕ) → magnitude_of gross.coefficient ≤ largest
    → made (from_gross rule gross r) ≡ gives (from_gross rule gross r)
made_from_gross rule gross r h =
    let sign = negative gross.coefficient in
    let m = magnitude_of gross.coefficient in
    let t = rounded_magnitude rule sign (m * r) (million + r) in
    let most : t ≤ m = at_most_all rule sign m r (million + r) (omega arith) (omega arith) in
    rw (gross_split rule gross r) (made_given gross sign (m - t) t (omega arith))

pub none_over : (rule : Rule) (gross : Amount) (r : ℕ) → magnitude_of gross.coefficient ≤ largest → Clear (rows_made (from_gross rule gross r))
none_over rule gross r h =
    let price = from_gross rule gross r in clear (rows_made price) (let_pass price price (rows_made price) (made_from_gross rule gross r h))

module _ (gross : Amount) (rate mode : ℕ) where
  pub from_gross_said_lem : from_gross_said gross rate mode ≡ first_row (rows_taken gross rate mode) (gives (from_gross (rule_of mode) gross rate))
  unfolding split_said tax_rows
  from_gross_said_lem =
      let m = magnitude_of gross.coefficient in
      same_behind (made (from_gross (rule_of mode) gross rate)) (gives (from_gross (rule_of mode) gross rate)) (rows_taken gross rate mode)
      (λ e. made_from_gross (rule_of mode) gross rate (ltb-false largest m (clear (rows_taken gross rate mode) e).1.1.0))

  pub never_over : (blamed : ℕ) → from_gross_said gross rate mode ≡ refuses 13 blamed → ⊥
  unfolding tax_rows
  never_over blamed e =
      not_given (from_gross (rule_of mode) gross rate) 13 blamed (rows_taken gross rate mode) (search rules)
      (sym from_gross_said_lem ∙ e)

  -- the net for a gross
  pub net_never_over : (blamed : ℕ) → NetSaid gross rate mode (refuses 13 blamed) → ⊥
  unfolding tax_rows
  net_never_over blamed allowed = go (refuses 13 blamed) allowed refl
    where
      go : (said : Said Split) → NetSaid gross rate mode said → said ≡ refuses 13 blamed → ⊥
      go said (refused n b e) same =
          let number : n ≡ 13 = cc in not_given gross 13 b (rows_taken gross rate mode) (search rules) (rw number at e)
      go said (found e net has) same = let z : ◌≡◌ {A = ℕ} 0 1 = cc in omega arith
      go said (none e never) same = let number : ◌≡◌ {A = ℕ} 15 13 = cc in omega arith
