-- What the check lets pass is a file of version 1, whose trailer is read. Assumes nothing.
use Rattle.std.specs.Prelude.{Err}
use Rattle.std.proofs.lemmas.Result.{err_from_is_err_and}
use mathlib.Core.Path.{sym, ◌∙◌, ap}
use mathlib.Core.List.{[], ◌∷◌}
use Rattle.refusal.specs.declared.Refusal.TheVariants.{Newer}
use Rattle.refusal.specs.Rows.{gives, row, means}
use Rattle.refusal.proofs.Check.{passed, refused}
use Rattle.refusal.proofs.Joined.{both_passed}
use Rattle.statement.specs.declared.Version.TheVariants.{Plain}
use Rattle.statement.specs.Reading.{newer, version_rows, read_rows, summary_of, read_said}
use Rattle.statement.proofs.reading.check.Goals as goal

pub summary_in-requires : goal.summary_in-requires
unfolding read_rows
summary_in-requires c = (both_passed (row Newer (newer c.args.bytes.now) ∷ []) (version_rows Plain c.args.bytes.now) (sym c.check_file.ensures ∙ c.in_ok-check_file.was)).1

pub returns-in_err-check_file : goal.returns-in_err-check_file
unfolding read_said
returns-in_err-check_file c =
    let bytes = c.args.bytes.now in
    let p = err_from_is_err_and c.from_residual.result c.from_residual.ensures.1 in
    ap means (p.1 ∙ ap Err p.2)
    ∙ sym (refused (gives (summary_of bytes)) (read_rows bytes) c.in_err-check_file.field-0.0 (sym c.check_file.ensures ∙ c.in_err-check_file.was))

pub returns : goal.returns
unfolding read_said
returns c = let bytes = c.args.bytes.now in
    ap gives c.summary_in.ensures ∙ sym (passed (gives (summary_of bytes)) (read_rows bytes) (sym c.check_file.ensures ∙ c.in_ok-check_file.was))
