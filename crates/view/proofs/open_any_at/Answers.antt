-- What `check_any` says, with the version and the first record's start. Assumes nothing.
use Rattle.std.specs.Prelude.{Err}
use Rattle.std.proofs.lemmas.Result.{err_from_is_err_and}
use mathlib.Core.Path.{◌∙◌, ap}
use Rattle.refusal.specs.Rows.{means}
use Rattle.view.proofs.Openings.{open_any_found, open_any_refused}
use Rattle.view.proofs.open_any_at.Goals as goal

pub returns-in_err-found : goal.returns-in_err-found
returns-in_err-found c =
    let p = err_from_is_err_and c.from_residual.result c.from_residual.ensures.1 in
    ap means (p.1 ∙ ap Err p.2) ∙ open_any_refused c.args.bytes.now c.check_any.result c.check_any.ensures c.in_err-found.field-0.0 c.in_err-found.was

pub returns : goal.returns
returns c = open_any_found c.args.bytes.now c.check_any.result c.check_any.ensures c.in_ok-found.found c.in_ok-found.was
