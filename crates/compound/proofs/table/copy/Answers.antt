-- The places passed hold the balances, which an i64 holds; the others stand as they did. Assumes nothing.
use mathlib.Core.Path.{◌∙◌}
use mathlib.Core.Bool.{false}
use native.Mathlib.Omega.{arith}
use lib.IntN.{pos}
use lib.ListN.{get_or}
use Rattle.whole.proofs.Laws.{read_back, held_within}
use Rattle.whole.proofs.Lists.{fill_none, fill_more}
use Rattle.compound.proofs.table.copy.Goals as goal

pub loop-i-init : goal.loop-i-init
loop-i-init c = fill_none 0 _ _

pub loop-i-preserved : goal.loop-i-preserved
loop-i-preserved c = let a = c.args in
    let at = c.loop-i in
    let balance = get_or a.rows.now at.i 0 in
    let is = read_back c.signed.result c.signed.type_inv ∙ c.signed.ensures
    ∙ held_within false balance (omega (arith, c.requires.within at.i (omega arith))) in
    fill_more 0 (λ n. pos (get_or a.rows.now n 0)) a.out.now at.out at.i at.i _ at.invariant (omega arith) is
