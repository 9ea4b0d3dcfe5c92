-- The magnitude is raised and takes the sign back, which is the signed product, at most so far from 0. Assumes nothing.
use mathlib.Core.Path.{◌∙◌, ap}
use Prim.Native.Nat.{ℕ, ◌-◌, ◌*◌, ◌^◌}
use mir.ValLaws.{to_z-of_z}
use mir.Syntax.{w64}
use Rattle.whole.specs.Whole.{negative, magnitude_of}
use Rattle.whole.proofs.Laws.{read_back}
use Rattle.amount.specs.Raising.{nearest}
use Rattle.amount.proofs.Raised.{held_raised}
use Rattle.amount.proofs.sum.raised.Goals as goal

pub returns : goal.returns
returns c = let p = c in
    let s = p in
    let z = s.args.coefficient in
    let f = 10 ^ (s.args.to - s.args.from) in
    let held = to_z-of_z w64 z s.ranges.coefficient in
    read_back c.signed.result c.signed.type_inv ∙ c.signed.ensures
    ∙ held_raised z f p.is_negative.result p.raised_magnitude.result
    (p.is_negative.ensures ∙ ap negative held)
    (p.raised_magnitude.ensures ∙ ap (λ (m : ℕ). nearest (m * f)) (p.magnitude.ensures ∙ ap magnitude_of held))
