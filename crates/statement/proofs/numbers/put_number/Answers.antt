-- The first bytes of the number as a word stand in the part. Assumes nothing.
use mathlib.Core.Path.{◌∙◌, ap}
use native.Mathlib.Omega.{arith}
use Prim.Native.Nat.{◌+◌, ◌-◌}
use lib.ListN.{take}
use Rattle.statement.specs.Bytes.{little_endian}
use Rattle.statement.proofs.ReadBack.{length_little}
use Rattle.statement.proofs.Putting.{first_bytes, put_in}
use Rattle.statement.proofs.numbers.put_number.Goals as goal

pub returns : goal.returns
returns c =
    let a = c.args in
    put_in a.out.now (little_endian a.count a.number) c.copy_from_slice.new.self a.at (a.at + a.count - a.at)
    (c.copy_from_slice.ensures.after ∙ ap (take a.count) c.to_le_bytes.ensures ∙ first_bytes a.count a.number c.requires.count_bound)
    (omega (arith, length_little a.count a.number))
