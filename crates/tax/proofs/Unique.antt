-- An answer is known by what it says, so two answers that a promise allows for the same arguments are equal. For a gross that is so because no
-- two nets have it. Assumes nothing.
use Rattle.std.specs.Prelude.{Result}
use mathlib.Core.Path.{◌≡◌, refl, sym, ◌∙◌, ap, ap₂}
use Prim.Native.Nat.{ℕ}
use native.Mathlib.Omega.{arith}
use Rattle.refusal.specs.Rows.{Said, refuses, means}
use Rattle.refusal.proofs.OneToOne.{same_answer}
use Rattle.amount.specs.declared.Amount.{Amount}
use Rattle.tax.specs.declared.Split.{Split}
use Rattle.tax.specs.Tax.{from_net_said, from_gross_said}
use Rattle.tax.specs.NetFor.{NetSaid, refused, found, none}
use Rattle.refusal.specs.declared.Refusal.{Refusal}
use Rattle.tax.proofs.NetFor.{one_net}

module _ (a : Amount) (rate mode : ℕ) (r s : Result Split Refusal) where
  pub one_tax_from_net : means r ≡ from_net_said a rate mode → means s ≡ from_net_said a rate mode → r ≡ s
  one_tax_from_net p q = same_answer r s (p ∙ sym q)

  pub one_tax_from_gross : means r ≡ from_gross_said a rate mode → means s ≡ from_gross_said a rate mode → r ≡ s
  one_tax_from_gross p q = same_answer r s (p ∙ sym q)

-- what is said of a gross is one
module _ (gross : Amount) (rate mode : ℕ) where
  one_net_said : {s t : Said Split} → NetSaid gross rate mode s → NetSaid gross rate mode t → s ≡ t
  one_net_said (refused m b e) (refused n c f) = let number : m ≡ n = cc in let blamed : b ≡ c = cc in ap₂ refuses number blamed
  one_net_said (refused m b e) (found f net has) = let z : ◌≡◌ {A = ℕ} 0 1 = cc in absurd (omega arith)
  one_net_said (refused m b e) (none f never) = let z : ◌≡◌ {A = ℕ} 0 1 = cc in absurd (omega arith)
  one_net_said (found e net has) (refused n c f) = let z : ◌≡◌ {A = ℕ} 0 1 = cc in absurd (omega arith)
  one_net_said (found e net has) (found f other also) =
      sym has.said ∙ ap (λ (a : Amount). from_net_said a rate mode) (one_net rate mode gross net other has also) ∙ also.said
  one_net_said (found e net has) (none f never) = absurd (never net has)
  one_net_said (none e never) (refused n c f) = let z : ◌≡◌ {A = ℕ} 0 1 = cc in absurd (omega arith)
  one_net_said (none e never) (found f net has) = absurd (never net has)
  one_net_said (none e never) (none f other) = refl

  pub one_net_for_gross : (r s : Result Split Refusal) → NetSaid gross rate mode (means r) → NetSaid gross rate mode (means s) → r ≡ s
  one_net_for_gross r s p q = same_answer r s (one_net_said p q)
