-- A minus, or nothing. Assumes nothing.
use mathlib.Core.Path.{sym}
use mathlib.Core.List.{[]}
use native.Mathlib.Omega.{arith}
use Rattle.lines.proofs.Fills.{behind}
use Rattle.text.proofs.Placed.{put_none}
use Rattle.text.proofs.writing.put_sign.Goals as goal

pub returns-else-negative : goal.returns-else-negative
returns-else-negative c =
    let out = c.args.out.now in
    rw c.if-negative.false (record { out_after = sym (put_none out 0 (omega arith)); value = sym (behind out 0 [] (omega arith)) })
