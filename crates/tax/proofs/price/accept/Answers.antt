-- A refused choice of the rule is row 1, a refused check is the row that it names, and what passed is within its limits. Assumes nothing.
use Rattle.std.proofs.lemmas.Result.{err_from_is_err_and}
use mathlib.Core.Path.{◌≡◌, sym, ◌∙◌, ap}
use Prim.Native.Nat.{ℕ}
use borrow.Author.Rules.{rules}
use borrow.Author.Tests.{ltb-false}
use Rattle.refusal.specs.Rows.{gives, check_of}
use Rattle.refusal.proofs.Check.{passed, refused, clear}
use Rattle.whole.specs.Whole.{magnitude_of}
use Rattle.rounding.proofs.Chosen.{mode_refused, mode_chosen, rule_chosen}
use Rattle.amount.specs.Amounts.{largest}
use Rattle.tax.specs.Tax.{million, tax_rows}
use Rattle.tax.proofs.price.accept.Goals as goal

pub returns-in_err-rule : goal.returns-in_err-rule
returns-in_err-rule c =
    let a = c.args in
    let p = err_from_is_err_and c.from_residual.result c.from_residual.ensures.1 in
    rw (p.1, p.2)
    (mode_refused (gives a.a) (tax_rows a.a.scale (magnitude_of a.a.coefficient) a.a.currency a.rate) a.mode c.in_err-rule.field-0.0
    (sym c.try_from.ensures ∙ c.in_err-rule.was))

pub returns-in_err-check : goal.returns-in_err-check
returns-in_err-check c =
    let a = c.args in
    let rows = tax_rows a.a.scale (magnitude_of a.a.coefficient) a.a.currency a.rate in
    let of_m : c.magnitude-m.result ≡ magnitude_of a.a.coefficient = search rules in
    let told = c.check.ensures ∙ ap (λ (m : ℕ). check_of (tax_rows a.a.scale m a.a.currency a.rate)) of_m in
    let f = c.from_residual-in_err-check in
    let p = err_from_is_err_and f.result f.ensures.1 in
    rw (p.1, p.2)
    (mode_chosen (gives a.a) rows a.mode c.in_ok-rule.rule (sym c.try_from.ensures ∙ c.in_ok-rule.was)
    ∙ refused (gives a.a) rows c.in_err-check.field-0.0 (sym told ∙ c.in_err-check.was))

pub invariant_of-result : goal.invariant_of-result
unfolding tax_rows
invariant_of-result c =
    let a = c.args in
    let none = clear (tax_rows a.a.scale c.magnitude-m.result a.a.currency a.rate) (sym c.check.ensures ∙ c.in_ok-check.was) in record {
      within_l = ltb-false largest c.magnitude-m.result none.1.0;
      within_million = ltb-false million a.rate none.1.1.1.0;
    }

pub returns : goal.returns
returns c =
    let a = c.args in
    let rows = tax_rows a.a.scale (magnitude_of a.a.coefficient) a.a.currency a.rate in
    let of_m : c.magnitude-m.result ≡ magnitude_of a.a.coefficient = search rules in
    let told = c.check.ensures ∙ ap (λ (m : ℕ). check_of (tax_rows a.a.scale m a.a.currency a.rate)) of_m in
    let chosen = sym c.try_from.ensures ∙ c.in_ok-rule.was in record {
      taken = mode_chosen (gives a.a) rows a.mode c.in_ok-rule.rule chosen ∙ passed (gives a.a) rows (sym told ∙ c.in_ok-check.was);
      rules = sym (rule_chosen a.mode c.in_ok-rule.rule chosen);
      signs = search rules;
      magnitudes = of_m;
      rates = search rules;
    }
