-- What the check lets pass is a file of the version that its trailer holds. Assumes nothing.
use Rattle.std.specs.Prelude.{Ok, Err}
use Rattle.std.proofs.lemmas.Result.{err_from_is_err_and}
use mathlib.Core.Path.{◌≡◌, sym, ◌∙◌, ap, ap₂, subst}
use Prim.Native.Nat.{ℕ}
use Rattle.refusal.specs.Rows.{gives, check_of, means}
use Rattle.refusal.proofs.Check.{passed, refused}
use Rattle.statement.specs.declared.Version.{Version}
use Rattle.statement.specs.declared.Summary.{Summary}
use Rattle.statement.specs.Files.{version_of}
use Rattle.statement.specs.Reading.{version_in, version_rows, any_rows, summary_in, summary_of_any, any_said}
use Rattle.statement.proofs.Accepted.{accepted}
use Rattle.statement.proofs.reading.check_any.Goals as goal

pub version_in-version-requires : goal.version_in-version-requires
unfolding any_rows
version_in-version-requires c =
    let bytes = c.args.bytes.now in
    let through : check_of (version_rows (version_in bytes) bytes) ≡ Ok tt = sym c.check_any_file.ensures ∙ c.in_ok-check_any_file.was in
    (accepted (version_in bytes) bytes through).0

pub summary_in-requires : goal.summary_in-requires
unfolding any_rows
summary_in-requires c =
    let bytes = c.args.bytes.now in
    let through : check_of (version_rows (version_in bytes) bytes) ≡ Ok tt = sym c.check_any_file.ensures ∙ c.in_ok-check_any_file.was in
    subst (λ (v : Version). check_of (version_rows v bytes) ≡ Ok tt) (sym c.version_in-version.ensures) through

pub returns-in_err-check_any_file : goal.returns-in_err-check_any_file
unfolding any_said
returns-in_err-check_any_file c =
    let bytes = c.args.bytes.now in
    let p = err_from_is_err_and c.from_residual.result c.from_residual.ensures.1 in
    ap means (p.1 ∙ ap Err p.2)
    ∙ sym (refused (gives (summary_of_any bytes)) (any_rows bytes) c.in_err-check_any_file.field-0.0 (sym c.check_any_file.ensures ∙ c.in_err-check_any_file.was))

pub returns : goal.returns
unfolding any_said
returns c =
    let bytes = c.args.bytes.now in
    let is = c.version_in-version.ensures in
    ap₂ (λ (n : ℕ) (s : Summary). gives (record { version = n; summary = s })) (c.number.ensures ∙ ap version_of is) (c.summary_in.ensures ∙ ap (λ (v : Version). summary_in v bytes) is)
    ∙ sym (passed (gives (summary_of_any bytes)) (any_rows bytes) (sym c.check_any_file.ensures ∙ c.in_ok-check_any_file.was))
