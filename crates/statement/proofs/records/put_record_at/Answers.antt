-- What is put to the front of the lent part stands in the buffer from the place on. Assumes nothing.
use mathlib.Core.Path.{◌∙◌, ap}
use native.Mathlib.Omega.{arith}
use mathlib.Core.List.{List, ◌++◌}
use Prim.Native.Nat.{ℕ, ◌-◌}
use lib.ListN.{length, take, drop}
use Rattle.statement.specs.Files.{record_bytes}
use Rattle.statement.specs.Parts.{piece_of}
use Rattle.statement.proofs.Pasting.{paste_lent}
use Rattle.statement.proofs.records.put_record_at.Goals as goal

pub returns : goal.returns
returns c = let start = c in
    let a = start.args in
    let old = a.out.now in
    ap (λ (ys : List ℕ). take a.at old ++ (ys ++ drop (length old - a.at) (drop a.at old))) c.put_record.ensures
    ∙ paste_lent a.at (record_bytes a.version (piece_of a.reasoned)) old (omega arith)
