-- The magnitude is cut to the reach of its sign, and that an i64 holds. Assumes nothing.
use mathlib.Core.Path.{◌∙◌, ap}
use Prim.Native.Nat.{min}
use Rattle.whole.proofs.Laws.{read_back}
use Rattle.lines.proofs.Ranges.{signed_held}
use Rattle.lines.proofs.Number.as_i64.Goals as goal
use Rattle.lines.proofs.Number.as_i64.Goals.{then-self, else-self}

pub returns : goal.returns
returns c =
    read_back c.signed.result c.signed.type_inv
    ∙ c.signed.ensures
    ∙ signed_held c.args.self.negative c.min.result c.args.self.magnitude
    (c.min.ensures ∙ ap (min c.args.self.magnitude) (elim c.if-self.branch [ then-self w ↦ w.most-is ∙ rw w.if-self.true | else-self w ↦ w.most-is ∙ rw w.if-self.false ]))
