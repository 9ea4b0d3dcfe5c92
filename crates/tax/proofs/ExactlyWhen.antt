-- The answer of a call is that of all its rows in the table's order, so the law of refusals holds of it: a number is given exactly
-- when a row of it holds and no row of a smaller number does. 15 is given exactly where none does and no net has the gross. Assumes nothing.
use mathlib.Core.Path.{◌≡◌, refl, sym}
use mathlib.Core.List.{List, ◌++◌}
use mathlib.Core.Logic.{◌↔◌}
use Prim.Native.Nat.{ℕ, ◌<◌}
use native.Mathlib.Omega.{arith}
use borrow.Author.Rules.{rules}
use lib.Dec.{T}
use Rattle.refusal.specs.Rows.{Said, gives, refuses, Row, first_row, rising, Holds}
use Rattle.refusal.proofs.Check.{behind}
use Rattle.refusal.proofs.Joined.{not_given}
use Rattle.refusal.proofs.ExactlyWhen.{Given, NoneBelow, exactly_when}
use Rattle.rounding.specs.declared.Rule.{Rule}
use Rattle.rounding.specs.Modes.{rule_of}
use Rattle.amount.specs.declared.Amount.{Amount}
use Rattle.tax.specs.declared.Split.{Split}
use Rattle.tax.specs.Tax.{tax_rows, rows_taken, rows_made, from_net, from_gross, split_said, from_net_said, from_gross_said}
use Rattle.tax.specs.NetFor.{NoneHas, Taken, NetSaid, refused, found, none}

-- for either way to take a price apart
module _ (split : Rule → Amount → ℕ → Split) (a : Amount) (rate mode : ℕ) where
  abbrev rows : List Row
  rows = rows_taken a rate mode ++ rows_made (split (rule_of mode) a rate)

  pub by_rows : split_said split a rate mode ≡ first_row rows (gives (split (rule_of mode) a rate))
  unfolding split_said
  by_rows = sym (behind (gives (split (rule_of mode) a rate)) (rows_taken a rate mode) (rows_made (split (rule_of mode) a rate)))

  rises : T (rising rows)
  unfolding tax_rows
  rises = tt

  number_given : (n : ℕ) → ((blamed : ℕ) × (split_said split a rate mode ≡ refuses n blamed)) ↔ (Holds n rows × NoneBelow n rows)
  unfolding Given
  number_given n = rw by_rows (exactly_when (split (rule_of mode) a rate) n rows rises)

module _ (a : Amount) (rate mode n : ℕ) where
  pub tax_from_net_exactly_when
      : ((blamed : ℕ) × (from_net_said a rate mode ≡ refuses n blamed)) ↔ (Holds n (rows from_net a rate mode) × NoneBelow n (rows from_net a rate mode))
  tax_from_net_exactly_when = number_given from_net a rate mode n

  pub tax_from_gross_exactly_when
      : ((blamed : ℕ) × (from_gross_said a rate mode ≡ refuses n blamed)) ↔ (Holds n (rows from_gross a rate mode) × NoneBelow n (rows from_gross a rate mode))
  tax_from_gross_exactly_when = number_given from_gross a rate mode n

-- of the net for a gross: the numbers of what the call takes by the same law, and 15 where no net has the gross
module _ (gross : Amount) (rate mode : ℕ) (said : Said Split) (allowed : NetSaid gross rate mode said) where
  pub net_for_gross_exactly_when : (n : ℕ) → n < 15
      → ((blamed : ℕ) × (said ≡ refuses n blamed)) ↔ (Holds n (rows_taken gross rate mode) × NoneBelow n (rows_taken gross rate mode))
  unfolding Given tax_rows
  net_for_gross_exactly_when n less =
      let law = exactly_when gross n (rows_taken gross rate mode) tt in
      (λ given. law.0 (given.0, taken_refused allowed given.0 given.1), λ holds. let given = law.1 holds in (given.0, said_refused allowed given.0 given.1))
    where
      taken_refused : {s : Said Split} → NetSaid gross rate mode s → (b : ℕ) → s ≡ refuses n b → Taken gross rate mode (refuses n b)
      taken_refused (refused m c e) b same = cc
      taken_refused (found e net has) b same = let z : ◌≡◌ {A = ℕ} 0 1 = cc in absurd (omega arith)
      taken_refused (none e never) b same = let number : 15 ≡ n = cc in absurd (omega arith)

      said_refused : {s : Said Split} → NetSaid gross rate mode s → (b : ℕ) → Taken gross rate mode (refuses n b) → s ≡ refuses n b
      said_refused (refused m c e) b taken = cc
      said_refused (found e net has) b taken = let z : ◌≡◌ {A = ℕ} 0 1 = cc in absurd (omega arith)
      said_refused (none e never) b taken = let z : ◌≡◌ {A = ℕ} 0 1 = cc in absurd (omega arith)

  pub no_net_exactly_when : (said ≡ refuses 15 0) ↔ (Taken gross rate mode (gives gross) × NoneHas rate mode gross)
  unfolding tax_rows
  no_net_exactly_when = (given said allowed, λ h. said_none said allowed h.0 h.1)
    where
      given : (s : Said Split) → NetSaid gross rate mode s → s ≡ refuses 15 0 → Taken gross rate mode (gives gross) × NoneHas rate mode gross
      given s (refused m c e) same =
          let number : m ≡ 15 = cc in absurd (not_given gross 15 c (rows_taken gross rate mode) (search rules) (rw number at e))
      given s (found e net has) same = let z : ◌≡◌ {A = ℕ} 0 1 = cc in absurd (omega arith)
      given s (none e never) same = (e, never)

      said_none : (s : Said Split) → NetSaid gross rate mode s → Taken gross rate mode (gives gross) → NoneHas rate mode gross → s ≡ refuses 15 0
      said_none s (refused m c e) taken never = let z : ◌≡◌ {A = ℕ} 0 1 = cc in absurd (omega arith)
      said_none s (found e net has) taken never = absurd (never net has)
      said_none s (none e other) taken never = refl
