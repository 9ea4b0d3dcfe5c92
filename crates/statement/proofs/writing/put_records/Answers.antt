-- The records passed stand from the start on, one behind the other; all else is as it was. Assumes nothing.
use Rattle.std.proofs.Common.{ℕ, ◌≡◌, pos, w64, to_z, of_z, ◌+◌, ◌*◌, ◌∙◌, List, get_or, ap, arith}
use Rattle.whole.proofs.Laws.{read_back}
use Rattle.statement.specs.Bytes.{pasted}
use Rattle.statement.specs.Files.{Piece, record_width, record_bytes}
use Rattle.statement.specs.Writing.{payout_with}
use Rattle.statement.proofs.Run.{length_record, run_start, run_more}
use Rattle.statement.proofs.writing.put_records.Goals as goal

pub loop-i-init : goal.loop-i-init
loop-i-init c =
    let a = c.args in
    let pieces : ℕ → List ℕ = λ k. record_bytes a.version (payout_with a.run.currency a.run.places.now a.run.codes.now a.run.coefficients.now k) in
    run_start pieces (record_width a.version) (λ i. length_record a.version _) a.start a.out.now

pub loop-i-preserved : goal.loop-i-preserved
loop-i-preserved c =
    let a = c.args in
    let at = c.loop-i in
    let pieces : ℕ → List ℕ = λ k. record_bytes a.version (payout_with a.run.currency a.run.places.now a.run.codes.now a.run.coefficients.now k) in
    let put = c.put_record_at in
    let place : ℕ = a.start + c.width-width.result * at.i in
    let held = read_back (get_or a.run.coefficients.now at.i (pos 0)) (omega arith) in
    let same :
    ◌≡◌ {A = Piece} (record { place = get_or a.run.places.now at.i 0; currency = c.from.result; coefficient = to_z w64 (of_z w64 (get_or a.run.coefficients.now at.i (pos 0))); reason = c.code_at-code.result })
    (payout_with a.run.currency a.run.places.now a.run.codes.now a.run.coefficients.now at.i) =
    cc (held, c.from.ensures, c.code_at-code.ensures) in
    run_more pieces (record_width a.version) (λ i. length_record a.version _) a.start a.out.now at.i at.out at.invariant put.new.out place
    (ap (λ (w : ℕ). a.start + w * at.i) c.width-width.ensures) (omega (arith, c.requires.places_in_bounds))
    (put.ensures ∙ ap (λ (p : Piece). pasted place (record_bytes a.version p) at.out) same)
