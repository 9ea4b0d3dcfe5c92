-- A refused check is the row that it names; what passed is each column's coefficient, by its bits' sign. Assumes nothing.
use Rattle.std.proofs.lemmas.Result.{err_from_is_err_and}
use mathlib.Core.Path.{sym, ◌∙◌, ap, ap₂}
use Rattle.refusal.specs.Rows.{gives}
use Rattle.whole.specs.Whole.{signed_of}
use Rattle.amount.specs.declared.Amount.{Amount}
use Rattle.doubles.specs.declared.column.Column.{Column}
use Rattle.doubles.specs.Doubles.{amount_at}
use Rattle.doubles.proofs.Taking.{asked, made_refused, within, both}
use Rattle.doubles.proofs.rows.made.Goals as goal

pub amount-requires : goal.amount-requires
amount-requires c =
    let a = c.args in
    let told = asked a.rule a.currency a.scale a.net a.tax _ _ _ c.read-net.ensures c.read-tax.ensures c.check_columns.ensures in
    rw c.read-net.ensures (within a.rule a.currency a.scale a.net a.tax (sym told ∙ c.in_ok-check_columns.was)).0

pub amount-requires-2 : goal.amount-requires-2
amount-requires-2 c =
    let a = c.args in
    let told = asked a.rule a.currency a.scale a.net a.tax _ _ _ c.read-net.ensures c.read-tax.ensures c.check_columns.ensures in
    rw c.read-tax.ensures (within a.rule a.currency a.scale a.net a.tax (sym told ∙ c.in_ok-check_columns.was)).1

pub returns-in_err-check_columns : goal.returns-in_err-check_columns
returns-in_err-check_columns c =
    let a = c.args in
    let told = asked a.rule a.currency a.scale a.net a.tax _ _ _ c.read-net.ensures c.read-tax.ensures c.check_columns.ensures in
    let p = err_from_is_err_and c.from_residual.result c.from_residual.ensures.1 in
    rw (p.1, p.2)
    (sym (made_refused a.rule a.currency a.scale a.net a.tax c.in_err-check_columns.field-0.0 (sym told ∙ c.in_err-check_columns.was)))

pub returns : goal.returns
returns c =
    let a = c.args in
    let told = asked a.rule a.currency a.scale a.net a.tax _ _ _ c.read-net.ensures c.read-tax.ensures c.check_columns.ensures in
    let as_amount : Column → Amount = λ x. amount_at a.currency a.scale (signed_of x.negative x.m) in
    ap₂ (λ (x y : Amount). gives (record { net = x; tax = y })) (c.amount.ensures ∙ ap as_amount c.read-net.ensures)
    (c.amount-2.ensures ∙ ap as_amount c.read-tax.ensures)
    ∙ both a.rule a.currency a.scale a.net a.tax (sym told ∙ c.in_ok-check_columns.was)
