-- An interest by sign and magnitude, as the program computes it: where no row holds its factors are within their limits, so the leaf
-- rounds their product, and what the program makes is what document 01 says of the principal. Assumes nothing.
use Rattle.std.specs.Prelude.{Ok, Err}
use mathlib.Core.Path.{◌≡◌, sym, ◌∙◌, ap, ap₂}
use mathlib.Core.Bool.{Bool}
use mathlib.Core.List.{List}
use Prim.Native.Nat.{ℕ, ◌*◌, ◌≤◌}
use native.Mathlib.Nat.{mul-le-mul, mul-le-mul_left}
use native.Mathlib.Omega.{arith}
use borrow.Author.Tests.{ltb-false}
use lib.IntN.{ℤ}
use Rattle.refusal.specs.declared.Refusal.{Refusal}
use Rattle.refusal.specs.Number.{number_of, blamed_of}
use Rattle.refusal.specs.Rows.{Said, gives, refuses, Row, first_row, check_of}
use Rattle.refusal.proofs.Check.{passed, refused, behind, clear}
use Rattle.whole.specs.Whole.{negative, magnitude_of, signed_of, held_signed}
use Rattle.whole.proofs.Laws.{held_within}
use Rattle.rounding.specs.declared.Rule.{Rule}
use Rattle.rounding.specs.Leaf.{rounded_magnitude}
use Rattle.rounding.specs.Product.{rounded_product}
use Rattle.rounding.proofs.Capped.{product_is}
use Rattle.rounding.proofs.Exact.{exact_magnitude}
use Rattle.rounding.proofs.Monotone.{monotone_magnitude}
use Rattle.rounding.proofs.Value.{by_magnitude}
use Rattle.currency.specs.declared.Currency.{Currency}
use Rattle.amount.specs.declared.Amount.{Amount}
use Rattle.amount.specs.Amounts.{largest, limited}
use Rattle.calendar.specs.declared.Date.{Date}
use Rattle.calendar.specs.DayCount.{basis_of}
use Rattle.calendar.specs.DaysSaid.{days_rows, days_said}
use Rattle.rounding.specs.Modes.{rule_of, choice_of}
use Rattle.rounding.proofs.Chosen.{mode_chosen, rule_chosen}
use Rattle.interest.specs.Interest.{last_rate, interest_rows, interest_of, interest_made, interest_said}
use Rattle.interest.specs.Accrual.{front_rows, Accrues, accrued_to, interest_by_rule}
use Rattle.refusal.proofs.Joined.{front_refused, same_value, let_pass, same_refused}
use Rattle.calendar.proofs.Bases.{year_within}
use Rattle.calendar.proofs.DaysRows.{Counted, counted}

-- what a day count that was given tells: no row of it holds, and it is the basis's
module _ (basis : ℕ) (start end : Date) (n : ℕ) (told : gives n ≡ days_said basis start end) where
  pub days_passed : check_of (days_rows basis start end) ≡ Ok tt
  unfolding days_said
  days_passed = let_pass ((basis_of basis).count start end) n (days_rows basis start end) (sym told)

  pub days_are : (basis_of basis).count start end ≡ n
  unfolding days_said
  days_are = same_value ((basis_of basis).count start end) n (days_rows basis start end) (sym told)

pub accrues : (scale m : ℕ) (currency : Currency) (rate basis : ℕ) (start end : Date) (n : ℕ) → check_of (front_rows scale m currency rate) ≡ Ok tt
    → gives n ≡ days_said basis start end → Accrues m rate n
accrues scale m currency rate basis start end n e told =
    let rows = clear (front_rows scale m currency rate) e in
    let days : Counted basis start end = counted basis start end (days_passed basis start end n told) in
    record {
      principal = ltb-false largest m rows.1.0;
      points = ltb-false last_rate rate rows.1.1.1.0;
      days = omega (arith, days.count, days_are basis start end n told);
    }

module _ {m rate days : ℕ} (limits : Accrues m rate days) where
  pub points_fit : rate * days ≤ last_rate * 366
  points_fit = mul-le-mul limits.points limits.days

  module _ (rule : Rule) (sign : Bool) (basis : ℕ) where
    abbrev parts : ℕ
    parts = 10000 * (basis_of basis).year

    -- 366 days are counted at most, and a year has 360 at least
    pub at_most_twice : rounded_magnitude rule sign (m * (rate * days)) parts ≤ 2 * m
    at_most_twice =
        let year = year_within basis in
        let covers : m * (rate * days) ≤ m * (2 * parts) = mul-le-mul_left m (omega (arith, points_fit)) in
        omega (
          arith,
          monotone_magnitude rule parts (omega arith) sign (m * (rate * days)) (2 * m * parts) (omega arith),
          exact_magnitude rule sign (2 * m) parts (omega arith),
        )

    -- so no cap of the leaf is met, and an i64 holds it
    pub leaf : rounded_product rule sign m (rate * days) parts ≡ rounded_magnitude rule sign (m * (rate * days)) parts
    leaf =
        let year = year_within basis in
        product_is rule sign m (rate * days) parts (omega (arith, limits.principal)) (omega (arith, points_fit)) (omega arith) (omega arith)
        (omega (arith, limits.principal, at_most_twice))

    pub held : let n = rounded_magnitude rule sign (m * (rate * days)) parts in held_signed sign n ≡ signed_of sign n
    held = held_within sign (rounded_magnitude rule sign (m * (rate * days)) parts) (omega (arith, limits.principal, at_most_twice))

-- document 01's interest, by the principal's sign and magnitude
pub by_parts : (rule : Rule) (n : ℤ) (rate basis : ℕ) (start end : Date)
    → interest_of rule n rate basis start end ≡ accrued_to rule (negative n) (magnitude_of n) rate basis ((basis_of basis).count start end)
unfolding interest_of accrued_to
by_parts rule n rate basis start end = by_magnitude rule n (rate * (basis_of basis).count start end) (10000 * (basis_of basis).year)

-- the answer behind row 1, from what the check by the magnitude m and the day count have told
module _ (rule : Rule) (a : Amount) (rate basis : ℕ) (start end : Date) (m : ℕ) (magnitudes : m ≡ magnitude_of a.coefficient) where
  abbrev rows : ℕ → List Row
  rows x = interest_rows a.scale x a.currency rate basis start end

  abbrev front : List Row
  front = front_rows a.scale m a.currency rate

  abbrev made : Said Amount
  made = interest_made rule a rate basis start end

  same_magnitude : first_row (rows m) made ≡ interest_by_rule rule a rate basis start end
  same_magnitude = ap (λ (x : ℕ). first_row (rows x) made) magnitudes

  pub said_refused : (r : Refusal) → check_of front ≡ Err r
      → refuses (number_of r) (blamed_of r) ≡ interest_by_rule rule a rate basis start end
  unfolding interest_rows
  said_refused r e = sym (refused made (rows m) r (front_refused front (days_rows basis start end) r e)) ∙ same_magnitude

  behind_rate : check_of front ≡ Ok tt → first_row (days_rows basis start end) made ≡ interest_by_rule rule a rate basis start end
  unfolding interest_rows
  behind_rate e =
      sym (behind made front (days_rows basis start end) ∙ passed (first_row (days_rows basis start end) made) front e) ∙ same_magnitude

  pub said_no_days : (r : Refusal) → check_of front ≡ Ok tt → refuses (number_of r) (blamed_of r) ≡ days_said basis start end
      → refuses (number_of r) (blamed_of r) ≡ interest_by_rule rule a rate basis start end
  unfolding days_said
  said_no_days r e told =
      sym (same_refused ((basis_of basis).count start end) made (number_of r) (blamed_of r) (days_rows basis start end) (sym told)) ∙ behind_rate e

  pub said_made : (sign : Bool) → sign ≡ negative a.coefficient → (n : ℤ) (days : ℕ) → n ≡ accrued_to rule sign m rate basis days → check_of front ≡ Ok tt
      → gives days ≡ days_said basis start end
      → limited n (record { currency = a.currency; scale = a.scale; coefficient = n }) ≡ interest_by_rule rule a rate basis start end
  said_made sign signs n days is e told =
      let counts : days ≡ (basis_of basis).count start end = sym (days_are basis start end days told) in
      let parts : accrued_to rule sign m rate basis days ≡ accrued_to rule (negative a.coefficient) (magnitude_of a.coefficient) rate basis ((basis_of basis).count start end) =
      ap₂ (λ (s : Bool) (x : ℕ). accrued_to rule s x rate basis days) signs magnitudes
      ∙ ap (λ (x : ℕ). accrued_to rule (negative a.coefficient) (magnitude_of a.coefficient) rate basis x) counts in
      let same : n ≡ interest_of rule a.coefficient rate basis start end = is ∙ parts ∙ sym (by_parts rule a.coefficient rate basis start end) in
      ap (λ (x : ℤ). limited x (record { currency = a.currency; scale = a.scale; coefficient = x })) same
      ∙ sym (passed made (days_rows basis start end) (days_passed basis start end days told))
      ∙ behind_rate e

-- and in front of it row 1, where the mode has a rule
pub with_mode : (rule : Rule) (a : Amount) (rate basis : ℕ) (start end : Date) (mode : ℕ) → choice_of mode ≡ Ok rule
    → interest_by_rule rule a rate basis start end ≡ interest_said a rate basis start end mode
unfolding interest_said
with_mode rule a rate basis start end mode chosen =
    ap (λ (x : Rule). interest_by_rule x a rate basis start end) (sym (rule_chosen mode rule chosen))
    ∙ sym
    (mode_chosen (interest_made (rule_of mode) a rate basis start end)
    (interest_rows a.scale (magnitude_of a.coefficient) a.currency rate basis start end) mode rule chosen)
