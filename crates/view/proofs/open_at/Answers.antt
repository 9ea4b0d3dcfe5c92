-- What `check` says, with the first record's start alone. Assumes nothing.
use Rattle.std.specs.Prelude.{Err}
use Rattle.std.proofs.lemmas.Result.{err_from_is_err_and}
use mathlib.Core.Path.{◌∙◌, ap}
use Rattle.refusal.specs.Rows.{means}
use Rattle.view.proofs.Openings.{open_found, open_refused}
use Rattle.view.proofs.open_at.Goals as goal

pub returns-in_err-summary : goal.returns-in_err-summary
returns-in_err-summary c =
    let p = err_from_is_err_and c.from_residual.result c.from_residual.ensures.1 in
    ap means (p.1 ∙ ap Err p.2) ∙ open_refused c.args.bytes.now c.check.result c.check.ensures c.in_err-summary.field-0.0 c.in_err-summary.was

pub returns : goal.returns
returns c = open_found c.args.bytes.now c.check.result c.check.ensures c.in_ok-summary.summary c.in_ok-summary.was
