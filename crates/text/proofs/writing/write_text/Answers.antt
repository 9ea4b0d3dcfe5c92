-- With room the text stands in front, without it nothing changes. Assumes nothing.
use Rattle.std.specs.Prelude.{Ok}
use mathlib.Core.Path.{refl, ap}
use native.Mathlib.Omega.{arith}
use Rattle.text.specs.Written.{spelled}
use Rattle.text.proofs.Placed.{written, not_written}
use Rattle.text.proofs.writing.write_text.Goals as goal

pub returns-then-out-length : goal.returns-then-out-length
returns-then-out-length c = let a = c.args in
    not_written (spelled a.negative a.m a.scale) a.out.now (omega (arith, c.length_of-length.ensures, c.if-out-length.true)) _ refl

pub returns : goal.returns
returns c = let a = c.args in
    written (spelled a.negative a.m a.scale) a.out.now (omega (arith, c.length_of-length.ensures, c.if-out-length.false)) _ c.put.new.out
    (ap Ok c.length_of-length.ensures) c.put.ensures
