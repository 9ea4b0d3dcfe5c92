-- The copied payouts are written from the place on. Assumes nothing.
use mathlib.Core.Path.{◌≡◌, sym}
use native.Mathlib.Omega.{arith}
use borrow.Author.Rules.{rules}
use lib.ListN.{length}
use Rattle.bulk.proofs.Written.{copied}
use Rattle.bulk.proofs.turns.write.Goals as goal

pub returns : goal.returns
returns c =
    let a = c.args in
    let long : length c.args.payouts ≡ 16 = search rules in
    copied a.out.now a.payouts _ a.at 16 _ c.copy_from_slice.ensures.after (sym long) (omega arith) c.requires
