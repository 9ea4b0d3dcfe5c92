-- The records stand from the start on, and the trailer behind them. Assumes nothing.
use mathlib.Core.Path.{sym, ◌∙◌, ap}
use native.Mathlib.Omega.{arith}
use mathlib.Core.List.{List}
use Prim.Native.Nat.{ℕ}
use lib.IntN.{ℤ, pos}
use lib.ListN.{length, get_or}
use Rattle.whole.proofs.Laws.{read_back}
use Rattle.statement.specs.Bytes.{pasted}
use Rattle.statement.specs.Files.{version_of, record_width, record_bytes, trailer_bytes, file_of, total_of}
use Rattle.statement.specs.Writing.{payout_with}
use Rattle.statement.proofs.Run.{length_record, run_behind}
use Rattle.statement.proofs.writing.put_file.Goals as goal

pub returns-clause-buffer : goal.returns-clause-buffer
unfolding file_of
returns-clause-buffer c = let start = c in
    let a = start.args in
    let n = length a.run.places.now in
    let put = c.put_records-at in
    let s = c.sum_of-sum in
    let f : ℕ → ℤ = λ i. get_or a.run.coefficients.now i (pos 0) in
    let pieces : ℕ → List ℕ = λ i. record_bytes a.version (payout_with a.run.currency a.run.places.now a.run.codes.now a.run.coefficients.now i) in
    let width = record_width a.version in
    let version = version_of a.version in
    let at = put.result in
    let sum = read_back s.result s.type_inv ∙ s.ensures ∙ ap (total_of f) (sym start.requires.even) in
    run_behind pieces width (λ i. length_record a.version _) a.start a.out.now n put.new.out put.ensures.buffer (trailer_bytes width n (total_of f n) version) _ at put.ensures.end (omega (arith, start.requires.fits))
    (c.put_trailer_at.ensures ∙ ap (λ (z : ℤ). pasted at (trailer_bytes width n z version) put.new.out) sum)
