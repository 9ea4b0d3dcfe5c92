-- Document 02, Ask 5: "There is never more than one such net, for any mode and sign". The tax put on a net is the tax that comes off its gross
-- (`undo` of rounding), so the only net that can have a gross is the one that tax from gross leaves; and that one has it exactly where the tax on it
-- is the tax that came off. Assumes nothing.
use Rattle.std.specs.Prelude.{Ok}
use mathlib.Core.Path.{◌≡◌, refl, sym, ap, ◌∙◌}
use mathlib.Core.Bool.{Bool, true, false}
use mathlib.Core.List.{List, [], ◌∷◌, ◌++◌}
use Prim.Native.Nat.{ℕ, zero, suc, ◌+◌, ◌-◌, ◌*◌, ◌<◌, ◌≤◌}
use native.Mathlib.Omega.{arith}
use borrow.Author.Tests.{le-ltb, ltb-false}
use lib.IntN.{ℤ, pos}
use Rattle.refusal.specs.Rows.{gives, Row, row, check_of}
use Rattle.refusal.proofs.Joined.{same_value}
use Rattle.refusal.proofs.Check.{Clear, clear, passed}
use Rattle.whole.specs.Whole.{negative, magnitude_of, signed_of}
use Rattle.whole.proofs.Laws.{sign_and_magnitude, magnitude_signed, negative_signed, signed_zero_lem}
use Rattle.rounding.specs.declared.Rule.{Rule}
use Rattle.rounding.specs.Modes.{rule_of}
use Rattle.rounding.specs.Leaf.{rounded_magnitude}
use Rattle.rounding.proofs.Undo.{undo, undo_one}
use Rattle.rounding.proofs.Value.{zero_rounds}
use Rattle.amount.specs.declared.Amount.{Amount}
use Rattle.amount.specs.Amounts.{largest}
use Rattle.tax.specs.declared.Split.{Split}
use Rattle.tax.specs.Tax.{million, tax_rows, rows_taken, rows_made, like, from_net, from_gross, made, split_said, from_net_said}
use Rattle.tax.specs.Parts.{split_of}
use Rattle.tax.specs.NetFor.{HasGross, NoneHas}
use Rattle.tax.proofs.ExactlyWhen.{by_rows}
use Rattle.tax.proofs.NeverOver.{made_from_gross}
use Rattle.tax.proofs.Value.{net_split, gross_split}

-- by magnitude: the tax put on a net, the tax that comes off a gross, and what it leaves
abbrev pub tax_on : (rule : Rule) (sign : Bool) (r m : ℕ) → ℕ
tax_on rule sign r m = rounded_magnitude rule sign (m * r) million

abbrev pub tax_off : (rule : Rule) (r : ℕ) (z : ℤ) → ℕ
tax_off rule r z = rounded_magnitude rule (negative z) (magnitude_of z * r) (million + r)

abbrev pub left_of : (rule : Rule) (r : ℕ) (z : ℤ) → ℕ
left_of rule r z = magnitude_of z - tax_off rule r z

-- the tax on what is left is the tax that came off
abbrev pub Agrees : (rule : Rule) (r : ℕ) (gross : Amount) → Type 0
Agrees rule r gross = tax_on rule (negative gross.coefficient) r (left_of rule r gross.coefficient) ≡ tax_off rule r gross.coefficient

no_tax : (rule : Rule) (sign : Bool) (r d : ℕ) → rounded_magnitude rule sign (0 * r) d ≡ 0
no_tax rule sign r d = (let z : 0 * r ≡ 0 = omega arith in ap (λ (x : ℕ). rounded_magnitude rule sign x d) z) ∙ zero_rounds rule sign d

-- two numbers of one worth: the magnitudes agree, and the signs where it isn't 0
same_magnitude : (s t : Bool) (m n : ℕ) → signed_of s m ≡ signed_of t n → m ≡ n
same_magnitude s t m n e = sym (magnitude_signed s m) ∙ ap magnitude_of e ∙ magnitude_signed t n

same_sign : (s t : Bool) (m n : ℕ) → 0 < m → signed_of s m ≡ signed_of t n → s ≡ t
same_sign s t m n some e =
    let both : m ≡ n = same_magnitude s t m n e in
    sym (negative_signed s m some) ∙ ap negative e ∙ negative_signed t n (omega arith)

nought : (z : ℤ) → magnitude_of z ≡ 0 → z ≡ pos 0
nought z n = sym (sign_and_magnitude z) ∙ ap (signed_of (negative z)) n ∙ signed_zero_lem (negative z)

-- a net's gross, by its sign and magnitude
abbrev gross_of : (rule : Rule) (r : ℕ) (z : ℤ) → ℤ
gross_of rule r z = signed_of (negative z) (magnitude_of z + tax_on rule (negative z) r (magnitude_of z))

module _ (rate mode : ℕ) (net gross : Amount) (has : HasGross rate mode net gross) where
  -- the answer is the definition's price
  split_is : has.split ≡ from_net (rule_of mode) net rate
  split_is =
      sym
      (same_value (from_net (rule_of mode) net rate) has.split (rows_taken net rate mode ++ rows_made (from_net (rule_of mode) net rate))
      (sym (by_rows from_net net rate mode) ∙ has.said))

  -- the gross has the net's currency and scale, and its sign
  shape : gross ≡ like net (gross_of (rule_of mode) rate net.coefficient)
  unfolding split_of
  shape = sym has.is ∙ ap (λ (s : Split). s.gross) split_is ∙ ap (λ (s : Split). s.gross) (net_split (rule_of mode) net rate)

module _ (rule : Rule) (r : ℕ) where
  -- of one gross: nets of one sign, or both are 0
  one_coefficient : (a b : ℤ) → gross_of rule r a ≡ gross_of rule r b → a ≡ b
  one_coefficient a b e = go (magnitude_of a) (magnitude_of b) refl refl
    where
      tax : ℤ → ℕ
      tax z = tax_on rule (negative z) r (magnitude_of z)

      sums : magnitude_of a + tax a ≡ magnitude_of b + tax b
      sums = same_magnitude (negative a) (negative b) _ _ e

      go : (m n : ℕ) → magnitude_of a ≡ m → magnitude_of b ≡ n → a ≡ b
      go zero zero p q = nought a p ∙ sym (nought b q)
      go zero (suc n) p q =
          let t : tax a ≡ 0 = ap (λ (x : ℕ). tax_on rule (negative a) r x) p ∙ no_tax rule (negative a) r million in absurd (omega (arith, sums))
      go (suc m) n p q =
          let signs : negative a ≡ negative b = same_sign (negative a) (negative b) _ _ (omega arith) e in
          let one : magnitude_of a ≡ magnitude_of b =
          undo_one rule (negative b) million r (omega arith) (magnitude_of a) (magnitude_of b) (rw signs at sums) in
          sym (sign_and_magnitude a) ∙ ap (λ (s : Bool). signed_of s (magnitude_of a)) signs ∙ ap (signed_of (negative b)) one ∙ sign_and_magnitude b

  -- the tax off a net's gross is the net's own, and leaves the net
  off_is : (sign : Bool) (m : ℕ) (z : ℤ) → z ≡ signed_of sign (m + tax_on rule sign r m) → tax_on rule (negative z) r (left_of rule r z) ≡ tax_off rule r z
  off_is sign m z e = go (m + tax_on rule sign r m) refl
    where
      t : ℕ
      t = tax_on rule sign r m

      go : (g : ℕ) → m + t ≡ g → tax_on rule (negative z) r (left_of rule r z) ≡ tax_off rule r z
      go zero none =
          let is : z ≡ pos 0 = e ∙ ap (signed_of sign) none ∙ signed_zero_lem sign in
          let off : tax_off rule r z ≡ 0 = ap (tax_off rule r) is ∙ no_tax rule false r (million + r) in
          let magnitude : magnitude_of z ≡ 0 = ap magnitude_of is in
          let left : left_of rule r z ≡ 0 = omega arith in
          ap (λ (x : ℕ). tax_on rule (negative z) r x) left ∙ no_tax rule (negative z) r million ∙ sym off
      go (suc g) some =
          let signs : negative z ≡ sign = ap negative e ∙ negative_signed sign (m + t) (omega arith) in
          let magnitude : magnitude_of z ≡ m + t = ap magnitude_of e ∙ magnitude_signed sign (m + t) in
          let off : tax_off rule r z ≡ t = rw (signs, magnitude) (undo rule sign million r (omega arith) m) in
          let left : left_of rule r z ≡ m = omega arith in
          ap (λ (x : ℕ). tax_on rule (negative z) r x) left ∙ ap (λ (s : Bool). tax_on rule s r m) signs ∙ sym off

-- "There is never more than one such net, for any mode and sign"
pub one_net : (rate mode : ℕ) (gross net other : Amount) → HasGross rate mode net gross → HasGross rate mode other gross → net ≡ other
one_net rate mode gross net other has also =
    let shapes : like net (gross_of (rule_of mode) rate net.coefficient) ≡ like other (gross_of (rule_of mode) rate other.coefficient) =
    sym (shape rate mode net gross has) ∙ shape rate mode other gross also in
    let coefficients : net.coefficient ≡ other.coefficient =
    one_coefficient (rule_of mode) rate net.coefficient other.coefficient (ap (λ (a : Amount). a.coefficient) shapes) in
    ap (like net) coefficients ∙ ap (λ (a : Amount). like a other.coefficient) shapes

-- where the tax on what is left is another, no net has the gross
pub none_when : (rate mode : ℕ) (gross : Amount) → (Agrees (rule_of mode) rate gross → ⊥) → NoneHas rate mode gross
none_when rate mode gross differ net has =
    differ
    (off_is (rule_of mode) rate (negative net.coefficient) (magnitude_of net.coefficient) gross.coefficient
    (ap (λ (a : Amount). a.coefficient) (shape rate mode net gross has)))

-- where it is the same, tax from net takes what tax from gross leaves apart in the same way
module _ (rule : Rule) (r : ℕ) (gross : Amount) (same : Agrees rule r gross) where
  abbrev z : ℤ
  z = gross.coefficient

  net_is : (from_gross rule gross r).net ≡ like gross (signed_of (negative z) (left_of rule r z))
  unfolding split_of
  net_is = ap (λ (s : Split). s.net) (gross_split rule gross r)

  sign_is : negative (signed_of (negative z) (left_of rule r z)) ≡ negative z
  sign_is = go (left_of rule r z) refl
    where
      go : (n : ℕ) → left_of rule r z ≡ n → negative (signed_of (negative z) n) ≡ negative z
      go zero none =
          let off : tax_off rule r z ≡ 0 = sym same ∙ ap (λ (x : ℕ). tax_on rule (negative z) r x) none ∙ no_tax rule (negative z) r million in
          let is : z ≡ pos 0 = nought z (omega arith) in
          ap (λ (x : ℤ). negative (signed_of (negative x) 0)) is ∙ ap negative (sym is)
      go (suc n) some = negative_signed (negative z) (suc n) (omega arith)

  back_again : from_net rule (from_gross rule gross r).net r ≡ from_gross rule gross r
  unfolding split_of
  back_again =
      let n = left_of rule r z in
      let s = signed_of (negative z) n in
      ap (λ (a : Amount). from_net rule a r) net_is
      ∙ net_split rule (like gross s) r
      ∙ ap (λ (m : ℕ). split_of gross (negative s) m (tax_on rule (negative s) r m)) (magnitude_signed (negative z) n)
      ∙ ap (λ (b : Bool). split_of gross b n (tax_on rule b r n)) sign_is
      ∙ ap (split_of gross (negative z) n) same
      ∙ sym (gross_split rule gross r)

pass : (rows : List Row) → Clear rows → check_of rows ≡ Ok tt
pass [] none = refl
pass (row x true ∷ rows) none = let z : ◌≡◌ {A = ℕ} 0 1 = cc in absurd (omega arith)
pass (row x false ∷ rows) none = pass rows none.1

module _ (rate mode : ℕ) (gross : Amount) (taken : check_of (rows_taken gross rate mode) ≡ Ok tt) (same : Agrees (rule_of mode) rate gross) where
  -- what is left is within L, at the same scale and in the same currency
  net_taken : check_of (rows_taken (from_gross (rule_of mode) gross rate).net rate mode) ≡ Ok tt
  unfolding tax_rows
  net_taken =
      let c = gross.coefficient in
      let n = left_of (rule_of mode) rate c in
      let s = signed_of (negative c) n in
      let none = clear (rows_taken gross rate mode) taken in
      let small : magnitude_of s ≤ largest = omega (arith, magnitude_signed (negative c) n, ltb-false largest (magnitude_of c) none.1.1.0) in
      ap (λ (a : Amount). check_of (rows_taken a rate mode)) (net_is (rule_of mode) rate gross same)
      ∙ pass (rows_taken (like gross s) rate mode)
      (none.0, (none.1.0, (le-ltb largest (magnitude_of s) small, (none.1.1.1.0, (none.1.1.1.1.0, tt)))))

  pub left_said_lem : from_net_said (from_gross (rule_of mode) gross rate).net rate mode ≡ gives (from_gross (rule_of mode) gross rate)
  unfolding split_said tax_rows
  left_said_lem =
      let within = ltb-false largest (magnitude_of gross.coefficient) (clear (rows_taken gross rate mode) taken).1.1.0 in
      passed (made (from_net (rule_of mode) (from_gross (rule_of mode) gross rate).net rate)) (rows_taken (from_gross (rule_of mode) gross rate).net rate mode) net_taken
      ∙ ap made (back_again (rule_of mode) rate gross same)
      ∙ made_from_gross (rule_of mode) gross rate within

  -- so the net that tax from gross leaves has the gross
  unfoldable pub found_when : HasGross rate mode (from_gross (rule_of mode) gross rate).net gross
  unfolding from_gross
  found_when = record { split = from_gross (rule_of mode) gross rate; said = left_said_lem; is = refl }
