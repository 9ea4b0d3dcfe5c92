-- The places passed hold the signed shares, each at most the sum, which an i64 holds. Assumes nothing.
use mathlib.Core.Path.{sym, ◌∙◌}
use mathlib.Core.List.{map}
use native.Mathlib.Omega.{arith}
use lib.ListN.{get_or, length-map, get_or-map}
use Rattle.whole.specs.Whole.{signed_of}
use Rattle.whole.proofs.Laws.{read_back, held_within}
use Rattle.whole.proofs.Lists.{fill_none, fill_more, copy_all}
use Rattle.whole.proofs.Sums.{place_within}
use Rattle.sharing.proofs.spread.write.Goals as goal

pub loop-i-init : goal.loop-i-init
loop-i-init c = fill_none 0 _ _

pub loop-i-preserved : goal.loop-i-preserved
loop-i-preserved c = let a = c.args in
    let at = c.loop-i in
    let share = get_or a.shares.now at.i 0 in
    let is = read_back c.signed.result c.signed.type_inv ∙ c.signed.ensures
    ∙ held_within a.negative share (omega (arith, place_within a.shares.now at.i)) in
    fill_more 0 (λ k. get_or (map (signed_of a.negative) a.shares.now) k (signed_of a.negative 0)) a.out.now at.out at.i at.i _ at.invariant (omega arith)
    (is ∙ sym (get_or-map (signed_of a.negative) a.shares.now at.i 0))

pub returns : goal.returns
returns c = let a = c.args in
    let at = c.loop-i in
    copy_all (signed_of a.negative 0) (map (signed_of a.negative) a.shares.now) a.out.now at.out at.i at.invariant (omega (arith, length-map a.shares.now (signed_of a.negative))) (omega arith)
