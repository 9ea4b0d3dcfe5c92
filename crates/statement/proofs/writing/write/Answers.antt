-- A refused check leaves the buffer as it stood; what passed has room for its file. Assumes nothing.
use Rattle.std.specs.Prelude.{Err}
use Rattle.std.proofs.lemmas.Result.{err_from_is_err_and}
use mathlib.Core.Path.{sym, ◌∙◌, ap}
use Prim.Native.Nat.{◌+◌}
use lib.ListN.{length}
use Rattle.refusal.specs.Rows.{means}
use Rattle.statement.specs.declared.Version.TheVariants.{Plain}
use Rattle.statement.specs.Files.{file_bytes, file_size}
use Rattle.statement.specs.Writing.{write_rows, payout, write_said}
use Rattle.statement.proofs.Answered.{answers_refused, answers_written, writable}
use Rattle.statement.proofs.writing.write.Goals as goal

pub put_file-requires : goal.put_file-requires
unfolding write_rows
put_file-requires c = let a = c.args in
    writable a.currency a.places.now a.coefficients.now (length a.out.now) a.start (sym c.check.ensures ∙ c.in_ok-check.was)

pub returns-in_err-check : goal.returns-in_err-check
unfolding write_said write_rows
returns-in_err-check c =
    let a = c.args in
    let p = err_from_is_err_and c.from_residual.result c.from_residual.ensures.1 in
    let all = answers_refused (write_rows a.currency a.places.now a.coefficients.now (length a.out.now) a.start) (a.start + file_size Plain (length a.places.now)) a.start
    (file_bytes (payout a.currency a.places.now a.coefficients.now) (length a.places.now)) a.out.now c.in_err-check.field-0.0
    (sym c.check.ensures ∙ c.in_err-check.was) in record { said = ap means (p.1 ∙ ap Err p.2) ∙ all.0; buffer = all.1 }

pub returns : goal.returns
unfolding write_said write_rows
returns c =
    let a = c.args in
    let put = c.put_file in
    let all = answers_written (write_rows a.currency a.places.now a.coefficients.now (length a.out.now) a.start) (a.start + file_size Plain (length a.places.now)) a.start
    (file_bytes (payout a.currency a.places.now a.coefficients.now) (length a.places.now)) a.out.now put.result put.new.out
    (sym c.check.ensures ∙ c.in_ok-check.was) put.ensures.end put.ensures.buffer in record { said = all.0; buffer = all.1 }
