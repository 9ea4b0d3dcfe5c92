-- After each turn one byte more stands in the list. Assumes nothing.
use Prim.Native.Nat.{◌+◌, ◌*◌}
use native.Mathlib.Omega.{arith}
use Rattle.hexadecimal.proofs.Pairs.{one_filled, all_filled, digit_inside}
use Rattle.hexadecimal.proofs.reading.fill.Goals as goal

pub byte_of-requires : goal.byte_of-requires
byte_of-requires c =
    let i = c.loop-i.i in
    (digit_inside c.args.word.now c.requires.2 (i * 2) (omega arith), digit_inside c.args.word.now c.requires.2 (i * 2 + 1) (omega arith))

pub loop-i-preserved : goal.loop-i-preserved
loop-i-preserved c = one_filled _ _ _ _ c.loop-i.invariant _ c.requires.0 c.requires.1 _ c.loop-i-test.true c.byte_of.ensures

pub returns : goal.returns
returns c = all_filled _ _ _ _ c.loop-i.invariant _ c.requires.0 c.requires.1 (omega arith)
