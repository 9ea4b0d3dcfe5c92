-- The rounded magnitude is at most the coefficient's, so the machine holds it with its sign. Assumes nothing.
use mathlib.Core.Path.{◌∙◌, ap, ap₂}
use mathlib.Core.Bool.{Bool}
use Prim.Native.Nat.{ℕ, ◌^◌}
use native.Mathlib.Omega.{arith}
use mir.Syntax.{w64}
use mir.ValLaws.{to_z-of_z}
use Rattle.whole.specs.Whole.{negative, magnitude_of}
use Rattle.whole.proofs.Laws.{read_back}
use Rattle.rounding.specs.Leaf.{rounded_magnitude}
use Rattle.rounding.proofs.Bounds.{at_most}
use Rattle.currency.proofs.Tables.{power_of_ten_lem}
use Rattle.amount.proofs.Scales.{held_rounded}
use Rattle.amount.proofs.rescale.lowered.Goals as goal

pub returns : goal.returns
returns c = let p = c in
    let s = p in
    let z = s.args.coefficient in
    let d = 10 ^ s.args.places in
    let held = to_z-of_z w64 z s.ranges.coefficient in
    let sign = p.is_negative-negative.ensures ∙ ap negative held in
    let rounds =
    c.round.ensures
    ∙ ap (λ (b : Bool). rounded_magnitude s.args.rule b p.magnitude.result p.power_of_ten.result) sign
    ∙ ap₂ (λ (m n : ℕ). rounded_magnitude s.args.rule (negative z) m n) (p.magnitude.ensures ∙ ap magnitude_of held)
    (p.power_of_ten.ensures ∙ power_of_ten_lem s.args.places (omega arith)) in
    read_back c.signed.result c.signed.type_inv ∙ c.signed.ensures
    ∙ held_rounded z p.is_negative-negative.result c.round.result s.args.rule d sign rounds
    (omega (arith, rounds, at_most s.args.rule (negative z) (magnitude_of z) d, s.requires.0))
