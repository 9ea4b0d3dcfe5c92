-- The cut is the one defined, and its places lie among the bytes that are held. Assumes nothing.
use mathlib.Core.Path.{◌≡◌, ◌∙◌}
use Rattle.intake.specs.Cuts.{cut_of}
use Rattle.intake.proofs.Inside.{standing_inside, cut_inside}
use Rattle.intake.proofs.cuts.next_line.Goals as goal

pub cut-requires : goal.cut-requires
cut-requires c = rw c.standing_of.ensures (standing_inside _ _)

pub returns : goal.returns
unfolding cut_of
returns c = let e : c.cut.result ≡ cut_of c.args.text.now c.args.at = c.cut.ensures ∙ rw c.standing_of.ensures in record { said = e; within = rw e (cut_inside c.args.text.now c.args.at) }
