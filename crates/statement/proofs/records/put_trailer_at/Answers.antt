-- What is put to the front of the lent part stands in the buffer from the place on. Assumes nothing.
use mathlib.Core.Path.{◌∙◌, ap}
use native.Mathlib.Omega.{arith}
use mathlib.Core.List.{List, ◌++◌}
use Prim.Native.Nat.{ℕ, ◌-◌}
use lib.IntN.{ℤ}
use mir.Syntax.{w64}
use mir.Val.{to_z, of_z}
use mir.ValLaws.{to_z-of_z}
use Rattle.statement.specs.Bytes.{pasted}
use lib.ListN.{length, take, drop}
use Rattle.statement.specs.Files.{version_of, record_width, trailer_bytes}
use Rattle.statement.proofs.Pasting.{paste_lent}
use Rattle.statement.proofs.records.put_trailer_at.Goals as goal

pub returns : goal.returns
returns c = let start = c in
    let a = start.args in
    let old = a.out.now in
    let held = to_z w64 (of_z w64 a.sum) in
    ap (λ (ys : List ℕ). take a.at old ++ (ys ++ drop (length old - a.at) (drop a.at old))) c.put_trailer.ensures
    ∙ paste_lent a.at (trailer_bytes (record_width a.version) a.count held (version_of a.version)) old (omega arith)
    ∙ ap (λ (z : ℤ). pasted a.at (trailer_bytes (record_width a.version) a.count z (version_of a.version)) old) (to_z-of_z w64 a.sum start.ranges.sum)
