-- A refused choice of the rule is row 1; behind it stand the other rows and the rescaled amount. Assumes nothing.
use Rattle.std.specs.Prelude.{Err}
use Rattle.std.proofs.lemmas.Result.{err_from_is_err_and}
use Rattle.refusal.specs.Rows.{means}
use mathlib.Core.Path.{sym, ◌∙◌, ap}
use mathlib.Core.List.{[]}
use Rattle.rounding.specs.declared.Rule.{Rule}
use Rattle.rounding.specs.Modes.{rule_of}
use Rattle.rounding.proofs.Chosen.{mode_refused, mode_chosen, rule_chosen}
use Rattle.amount.specs.Rescaling.{rescale_by_rule, rescale_said}
use Rattle.amount.proofs.Amount.rescale.Goals as goal

pub returns-in_err-rule : goal.returns-in_err-rule
unfolding rescale_said
returns-in_err-rule c =
    let p = err_from_is_err_and c.from_residual.result c.from_residual.ensures.1 in
    ap means (p.1 ∙ ap Err p.2)
    ∙ (let k = c in
    let a = k.args in
    sym
    (mode_refused (rescale_by_rule (rule_of a.mode) a.scale a.self) [] a.mode c.in_err-rule.field-0.0
    (sym k.try_from.ensures ∙ c.in_err-rule.was)))

pub returns : goal.returns
unfolding rescale_said
returns c = let r = c in
    let k = r in
    let a = k.args in
    let rule = r.in_ok-rule.rule in
    let chosen = sym k.try_from.ensures ∙ r.in_ok-rule.was in
    c.by_rule.ensures
    ∙ ap (λ (x : Rule). rescale_by_rule x a.scale a.self) (sym (rule_chosen a.mode rule chosen))
    ∙ sym (mode_chosen (rescale_by_rule (rule_of a.mode) a.scale a.self) [] a.mode rule chosen)
