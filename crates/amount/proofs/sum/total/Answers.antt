-- Both coefficients are raised to the greater scale and added there; neither is farther from 0 than FAR, so the sum fits. Assumes nothing.
use mathlib.Core.Path.{◌≡◌}
use Prim.Native.Nat.{◌-◌, ◌^◌, max}
use lib.IntN.{pos, ◌*ℤ◌}
use mir.Syntax.{w64}
use mir.Val.{to_z, of_z}
use Rattle.amount.specs.Raising.{nearer}
use Rattle.amount.proofs.Raised.{sum_fits, read_raised}
use Rattle.amount.proofs.sum.total.Goals as goal

pub add-requires : goal.add-requires
add-requires c =
    let first : let a = c.args in to_z w64 (of_z w64 c.raised.result) ≡ nearer (a.x *ℤ pos (10 ^ (max a.s a.t - a.s))) =
    let s = c in
    read_raised s.args.x c.raised.result s.args.s c.max-scale.result (max s.args.s s.args.t)
    s.ranges.x c.raised.type_inv c.max-scale.ensures c.raised.ensures in
    let second : let a = c.args in to_z w64 (of_z w64 c.raised-2.result) ≡ nearer (a.y *ℤ pos (10 ^ (max a.s a.t - a.t))) =
    let s = c in
    read_raised s.args.y c.raised-2.result s.args.t c.max-scale.result (max s.args.s s.args.t)
    s.ranges.y c.raised-2.type_inv c.max-scale.ensures c.raised-2.ensures in
    let s = c in
    let g = max s.args.s s.args.t in
    rw (first, second) (sum_fits (s.args.x *ℤ pos (10 ^ (g - s.args.s))) (s.args.y *ℤ pos (10 ^ (g - s.args.t))))
