-- A price by sign and magnitudes, as the program computes it: what the rule and the rows say of it is what document 01 says of the
-- amount. Assumes nothing.
use Rattle.std.specs.Prelude.{Ok}
use mathlib.Core.Path.{◌≡◌, refl, sym, ◌∙◌, ap, ap₂}
use mathlib.Core.Bool.{Bool, true, false}
use mathlib.Core.List.{[], ◌∷◌}
use Prim.Native.Nat.{ℕ, ◌+◌, ◌*◌, ◌-◌, ◌<◌, ◌≤◌}
use native.Mathlib.Omega.{arith}
use borrow.Author.Tests.{lt-ltb, le-ltb}
use lib.IntN.{ℤ, pos, ◌+ℤ◌, ◌-ℤ◌, ◌*ℤ◌, neg_ℤ-+ℤ, +ℤ-neg_ℤ_cancel}
use Rattle.refusal.specs.declared.Refusal.{Refusal}
use Rattle.refusal.specs.declared.Refusal.TheVariants.{Limit}
use Rattle.refusal.specs.Number.{number_of, blamed_of}
use Rattle.refusal.specs.Rows.{Said, gives, refuses, row, first_row, check_of}
use Rattle.refusal.proofs.Check.{passed}
use Rattle.whole.specs.Whole.{negative, magnitude_of, signed_of}
use Rattle.whole.proofs.Laws.{sign_and_magnitude, magnitude_signed, signed_opposite}
use Rattle.rounding.specs.declared.Rule.{Rule}
use Rattle.rounding.specs.Modes.{rule_of}
use Rattle.rounding.specs.Leaf.{rounded, rounded_magnitude}
use Rattle.rounding.proofs.Value.{by_magnitude}
use Rattle.amount.specs.declared.Amount.{Amount}
use Rattle.amount.specs.Amounts.{largest, over_l}
use Rattle.tax.specs.declared.Split.{Split}
use Rattle.tax.specs.Tax.{million, rows_taken, like, from_net, from_gross, made, split_said, from_net_said, from_gross_said}
use Rattle.tax.specs.declared.accepted.Accepted.{Accepted}
use Rattle.tax.specs.NetFor.{Taken}
use Rattle.tax.specs.Parts.{Given, split_of}
use Rattle.tax.proofs.Bounds.{at_most_all}
use Rattle.refusal.proofs.Joined.{let_pass, same_refused}

-- numbers of one sign: the sum's magnitude is the sum, and what is left has the magnitude that is left
signed_sum : (sign : Bool) (m n : ℕ) → signed_of sign m +ℤ signed_of sign n ≡ signed_of sign (m + n)
signed_sum false m n = refl
signed_sum true m n =
    ap₂ ◌+ℤ◌ (signed_opposite false m) (signed_opposite false n) ∙ sym (neg_ℤ-+ℤ (pos m) (pos n)) ∙ sym (signed_opposite false (m + n))

signed_left : (sign : Bool) (m n : ℕ) → n ≤ m → signed_of sign m -ℤ signed_of sign n ≡ signed_of sign (m - n)
signed_left sign m n h =
    let together : signed_of sign (m - n) +ℤ signed_of sign n ≡ signed_of sign m = signed_sum sign (m - n) n ∙ ap (signed_of sign) (omega arith) in
    ap (λ (x : ℤ). x -ℤ signed_of sign n) (sym together) ∙ +ℤ-neg_ℤ_cancel (signed_of sign (m - n)) (signed_of sign n)

-- a price by its three amounts, each by its coefficient
pub same_parts : (a : Amount) {net tax gross : Amount} {x y z : ℤ} → net ≡ like a x → tax ≡ like a y → gross ≡ like a z
    → ◌≡◌ {A = Split} (record { net = net; tax = tax; gross = gross }) (record { net = like a x; tax = like a y; gross = like a z })
same_parts a p q r = cc

-- row 13 at a price: net and tax are within its gross, so the gross decides
module _ (a : Amount) (sign : Bool) (net tax : ℕ) where
  over_gross : (value : Said Split) (first last : Bool) → first_row (row Limit first ∷ row Limit true ∷ row Limit last ∷ []) value ≡ refuses 13 0
  over_gross value true last = refl
  over_gross value false last = refl

  pub made_refused : largest < net + tax → made (split_of a sign net tax) ≡ refuses 13 0
  unfolding split_of
  made_refused h =
      simp (magnitude_signed sign net, magnitude_signed sign tax, magnitude_signed sign (net + tax), lt-ltb largest (net + tax) h)
      (over_gross (gives (split_of a sign net tax)) (over_l tax) (over_l net))

  pub made_given : net + tax ≤ largest → made (split_of a sign net tax) ≡ gives (split_of a sign net tax)
  unfolding split_of
  made_given h =
      simp (
        magnitude_signed sign net,
        magnitude_signed sign tax,
        magnitude_signed sign (net + tax),
        le-ltb largest (net + tax) h,
        le-ltb largest net (omega arith),
        le-ltb largest tax (omega arith),
      )

-- what the one test of a price needs
pub ruleset price_steps = (made_refused, made_given, same_parts)

-- a price taken apart, by the amount's sign and magnitude and the tax's magnitude
module _ (rule : Rule) (a : Amount) (r : ℕ) where
  abbrev tax_by : ℕ → ℕ
  tax_by d = rounded_magnitude rule (negative a.coefficient) (magnitude_of a.coefficient * r) d

  pub net_split : from_net rule a r ≡ split_of a (negative a.coefficient) (magnitude_of a.coefficient) (tax_by million)
  unfolding from_net split_of
  net_split =
      let z = a.coefficient in
      let is : z ≡ signed_of (negative z) (magnitude_of z) = sym (sign_and_magnitude z) in
      let tax : rounded rule (z *ℤ pos r) million ≡ signed_of (negative z) (tax_by million) = by_magnitude rule z r million in
      same_parts a (ap (like a) is) (ap (like a) tax) (ap (like a) (ap₂ ◌+ℤ◌ is tax ∙ signed_sum (negative z) (magnitude_of z) (tax_by million)))

  pub gross_split : from_gross rule a r ≡ split_of a (negative a.coefficient) (magnitude_of a.coefficient - tax_by (million + r)) (tax_by (million + r))
  unfolding from_gross split_of
  gross_split =
      let z = a.coefficient in
      let t = tax_by (million + r) in
      let most : t ≤ magnitude_of z = at_most_all rule (negative z) (magnitude_of z) r (million + r) (omega arith) (omega arith) in
      let is : z ≡ signed_of (negative z) (magnitude_of z) = sym (sign_and_magnitude z) in
      let tax : rounded rule (z *ℤ pos r) (million + r) ≡ signed_of (negative z) t = by_magnitude rule z r (million + r) in
      same_parts a (ap (like a) (ap₂ ◌-ℤ◌ is tax ∙ signed_left (negative z) (magnitude_of z) t most)) (ap (like a) tax)
      (ap (like a) (is ∙ ap (signed_of (negative z)) (omega arith)))

-- a call that none of the rows refuses
module _ {a : Amount} {rate mode : ℕ} {x : Accepted} (call : Given a rate mode x) where
  pub rows_passed : check_of (rows_taken a rate mode) ≡ Ok tt
  rows_passed = let_pass a a (rows_taken a rate mode) call.taken

  said : (split : Rule → Amount → ℕ → Split) → made (split (rule_of mode) a rate) ≡ split_said split a rate mode
  unfolding split_said
  said split = sym (passed (made (split (rule_of mode) a rate)) (rows_taken a rate mode) rows_passed)

  -- by the tax's magnitude
  pub net_said : (t : ℕ) → t ≡ rounded_magnitude x.rule x.negative (x.m * x.rate) million → made (split_of a x.negative x.m t) ≡ from_net_said a rate mode
  net_said t tax = rw (tax, call.rules, call.signs, call.magnitudes, call.rates) (ap made (sym (net_split (rule_of mode) a rate)) ∙ said from_net)

  pub gross_said : (t : ℕ) → t ≡ rounded_magnitude x.rule x.negative (x.m * x.rate) (million + x.rate) → made (split_of a x.negative (x.m - t) t) ≡ from_gross_said a rate mode
  gross_said t tax = rw (tax, call.rules, call.signs, call.magnitudes, call.rates) (ap made (sym (gross_split (rule_of mode) a rate)) ∙ said from_gross)

-- and one that a row does
pub said_refused : (split : Rule → Amount → ℕ → Split) (a : Amount) (rate mode : ℕ) (r : Refusal) → Taken a rate mode (refuses (number_of r) (blamed_of r))
    → refuses (number_of r) (blamed_of r) ≡ split_said split a rate mode
unfolding split_said
said_refused split a rate mode r e =
    sym (same_refused a (made (split (rule_of mode) a rate)) (number_of r) (blamed_of r) (rows_taken a rate mode) e)
