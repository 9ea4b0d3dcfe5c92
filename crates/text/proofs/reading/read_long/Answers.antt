-- The shape's part of row 14, and a long text of a good shape is over L. Assumes nothing.
use mathlib.Core.Path.{sym, ◌∙◌}
use Prim.Native.Nat.{◌≤◌}
use native.Mathlib.Omega.{arith}
use lib.Dec.{ltb}
use lib.ListN.{length}
use Rattle.text.specs.Read.{number_at, scale_at, Shaped}
use Rattle.text.proofs.Accepted.{within, start_inside}
use Rattle.text.proofs.Numbers.{malformed_said, over_said, shaped_said, long_over}
use Rattle.text.proofs.reading.read_long.Goals as goal

pub bad_shape-requires : goal.bad_shape-requires
bad_shape-requires c = let bytes = c.args.bytes.now in
    let start = c.start_of-start in
    let first : start.result ≤ length bytes = omega (arith, start.ensures, start_inside bytes) in
    omega (arith, c.digits_end-end.ensures, within bytes start.result first)

pub returns-then-bad_shape : goal.returns-then-bad_shape
returns-then-bad_shape c = let a = c.args in
    sym
    (malformed_said a.currency a.bytes.now c.start_of-start.result c.digits_end-end.result c.requires.0 c.start_of-start.ensures c.digits_end-end.ensures
    (sym c.bad_shape.ensures ∙ c.if-bad_shape.true))

pub returns : goal.returns
returns c = let a = c.args in
    let bytes = a.bytes.now in
    let start = c.start_of-start.result in
    let end = c.digits_end-end.result in
    let shaped : Shaped bytes start end =
    record { starts = c.start_of-start.ensures; ends = c.digits_end-end.ensures; good = sym c.bad_shape.ensures ∙ c.if-bad_shape.false } in
    sym (over_said a.currency (ltb 0 start) (scale_at (length bytes) end) (number_at bytes start end) (long_over bytes start end shaped c.requires.1))
    ∙ shaped_said a.currency bytes start end c.requires.0 shaped
