-- Both coefficients are raised to the greater scale and compared there; one of them was at it before. Assumes nothing.
use mathlib.Core.Path.{◌∙◌, ap₂}
use Prim.Native.Nat.{◌-◌, ◌^◌, max}
use lib.IntN.{pos, ◌*ℤ◌}
use Rattle.amount.proofs.Raised.{one_near, same_order, read_raised}
use Rattle.amount.specs.Sum.{compared}
use Rattle.amount.proofs.ordering.ordered.Goals as goal

pub returns : goal.returns
returns c = let r = c in
    let s = r in
    let scale = max s.args.s s.args.t in
    let g = r.max-scale in
    c.cmp.ensures
    ∙ ap₂ compared
    (read_raised s.args.x r.raised.result s.args.s g.result scale s.ranges.x r.raised.type_inv g.ensures r.raised.ensures)
    (read_raised s.args.y c.raised-2.result s.args.t g.result scale s.ranges.y c.raised-2.type_inv g.ensures
    c.raised-2.ensures)
    ∙ same_order (s.args.x *ℤ pos (10 ^ (scale - s.args.s))) (s.args.y *ℤ pos (10 ^ (scale - s.args.t)))
    (one_near s.args.x s.args.y s.args.s s.args.t s.requires.0 s.requires.2)
