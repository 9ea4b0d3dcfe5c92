-- With reasons the eight bytes are at most the last code; without them there is nothing to look at. Assumes nothing.
use mathlib.Core.Path.{◌∙◌, ap₂}
use lib.Dec.{ltb}
use Rattle.statement.proofs.Heads.{code_with, code_without}
use Rattle.statement.proofs.looking.bad_code.Goals as goal

pub returns-in-Plain : goal.returns-in-Plain
returns-in-Plain c = code_without c.args.bytes.now c.args.at c.args.version c.in-Plain.is

pub returns-in-Reasons : goal.returns-in-Reasons
returns-in-Reasons c = let a = c.args in
    ap₂ ltb c.from.ensures c.eight_at.ensures ∙ code_with a.bytes.now (λ i. (c.type_inv.bytes i).fits) a.at a.version c.in-Reasons.is
