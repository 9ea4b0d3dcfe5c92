-- None of the records passed is bad, and the sum so far is theirs. Assumes nothing.
use mathlib.Core.Path.{◌≡◌}
use mathlib.Core.Bool.{false}
use Rattle.statement.specs.Files.{record_width, total_of}
use Rattle.statement.specs.Writing.{any_of}
use Rattle.statement.specs.Reading.{record_place, agreed_in, bad_record, coefficients_in}
use Rattle.statement.proofs.looking.check_records.Given as goal

abbrev pub invariant-loop-i : goal.invariant-loop-i
invariant-loop-i l =
    (any_of (λ k. bad_record l.version l.bytes (agreed_in l.bytes l.first) (record_place (record_width l.version) l.first k)) l.i ≡ false)
    × (l.sum ≡ total_of (coefficients_in l.bytes (record_width l.version) l.first) l.i)
