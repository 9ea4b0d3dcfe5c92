-- The records passed stand from the start on, one behind the other; all else is as it was. Assumes nothing.
use mathlib.Core.Path.{◌≡◌}
use Rattle.statement.specs.Bytes.{pasted}
use Rattle.statement.specs.Files.{record_bytes, joined}
use Rattle.statement.specs.Writing.{payout_with}
use Rattle.statement.proofs.writing.put_records.Given as goal

abbrev pub invariant-loop-i : goal.invariant-loop-i
invariant-loop-i l =
    l.out ≡ pasted l.start (joined (λ k. record_bytes l.version (payout_with l.run.currency l.run.places.now l.run.codes.now l.run.coefficients.now k)) l.i) l.initial.out
