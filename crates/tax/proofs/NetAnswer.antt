-- From the two roundings of `net_for_gross` to its answer: where they agree, the net that tax from gross leaves is the one that has the gross; else
-- none has it. Assumes nothing.
use mathlib.Core.Path.{◌≡◌, sym, ◌∙◌, subst}
use Prim.Native.Nat.{ℕ, ◌+◌, ◌-◌, ◌*◌}
use Rattle.refusal.specs.Rows.{Said, gives, refuses}
use Rattle.refusal.proofs.Check.{passed}
use Rattle.whole.specs.Whole.{negative}
use Rattle.rounding.specs.Modes.{rule_of}
use Rattle.rounding.specs.Leaf.{rounded_magnitude}
use Rattle.amount.specs.declared.Amount.{Amount}
use Rattle.tax.specs.declared.Split.{Split}
use Rattle.tax.specs.Tax.{million, rows_taken, from_gross, made}
use Rattle.tax.specs.declared.accepted.Accepted.{Accepted}
use Rattle.tax.specs.Parts.{Given, split_of}
use Rattle.tax.specs.NetFor.{NetSaid, found, none}
use Rattle.tax.proofs.NeverOver.{from_gross_said_lem}
use Rattle.tax.proofs.NetFor.{tax_on, tax_off, left_of, none_when, found_when}
use Rattle.tax.proofs.Value.{rows_passed, gross_said}

module _ {a : Amount} {rate mode : ℕ} {x : Accepted} (call : Given a rate mode x)
    (t : ℕ) (tax : t ≡ rounded_magnitude x.rule x.negative (x.m * x.rate) (million + x.rate))
    (b : ℕ) (back : b ≡ rounded_magnitude x.rule x.negative ((x.m - t) * x.rate) million) where
  -- t is the tax that comes off the gross, b the tax on what it leaves: they are the definition's
  off : t ≡ tax_off (rule_of mode) rate a.coefficient
  off = rw (sym call.rules, sym call.signs, sym call.magnitudes, sym call.rates) tax

  on : b ≡ tax_on (rule_of mode) (negative a.coefficient) rate (left_of (rule_of mode) rate a.coefficient)
  on = rw (sym off, sym call.rules, sym call.signs, sym call.magnitudes, sym call.rates) back

  pub net_found : (said : Said Split) → said ≡ made (split_of a x.negative (x.m - t) t) → b ≡ t → NetSaid a rate mode said
  unfolding found_when
  net_found said is e =
      let price = from_gross (rule_of mode) a rate in
      let given : said ≡ gives price =
      is ∙ gross_said call t tax ∙ from_gross_said_lem a rate mode ∙ passed (gives price) (rows_taken a rate mode) (rows_passed call) in
      subst (NetSaid a rate mode) (sym given) (found call.taken price.net (found_when rate mode a (rows_passed call) (sym on ∙ e ∙ off)))

  pub net_none : (b ≡ t → ⊥) → NetSaid a rate mode (refuses 15 0)
  net_none other = none call.taken (none_when rate mode a (λ same. other (on ∙ same ∙ sym off)))
