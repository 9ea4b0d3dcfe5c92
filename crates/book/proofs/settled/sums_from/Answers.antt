-- The item of a turn is the first of the places to come. Assumes nothing.
use Rattle.std.proofs.lemmas.Iterator.{YieldsList-from_slice}
use Rattle.std.proofs.lemmas.Iterator.Adapters.{YieldsList-from_skip}
use Rattle.std.proofs.lemmas.Iterator.Consumers.{YieldsList-turn, YieldsList-end}
use Rattle.std.proofs.lemmas.List.{length_push}
use mathlib.Core.Path.{◌≡◌, ap, ◌∙◌}
use native.Mathlib.Numerals.{add-one}
use native.Mathlib.Omega.{arith}
use borrow.Author.Rules.{rules}
use lib.ListN.{length, drop}
use Rattle.whole.proofs.Laws.{read_back}
use Rattle.book.specs.Settled.{up_of, down_of}
use Rattle.book.proofs.SettledTotals.{above_earlier, below_earlier, none_behind_end, within}
use Rattle.book.proofs.settled.sums_from.Goals as goal

pub overflow_add-above : goal.overflow_add-above
overflow_add-above c =
    let long : length c.args.settled ≡ 16 = search rules in
    let t = YieldsList-turn (YieldsList-from_skip c.args.from (YieldsList-from_slice c.args.settled cc) cc) c.loop-total.yielded _ c.loop-total.yielded_by _ _ c.in-Some.total c.in-Some.is c.next.ensures.steps in
    let x = c.in-Some.total.now in
    let upper : c.up-above.result ≡ up_of c.in-Some.total.now = c.up-above.ensures ∙ ap up_of (read_back c.in-Some.total.now (search rules)) in
    omega (arith, upper, above_earlier (drop c.args.from c.args.settled) (length c.loop-total.yielded) x t.1 t.0, (within c.args.settled c.args.from long c.requires).0)

pub overflow_add-below : goal.overflow_add-below
overflow_add-below c =
    let long : length c.args.settled ≡ 16 = search rules in
    let t = YieldsList-turn (YieldsList-from_skip c.args.from (YieldsList-from_slice c.args.settled cc) cc) c.loop-total.yielded _ c.loop-total.yielded_by _ _ c.in-Some.total c.in-Some.is c.next.ensures.steps in
    let x = c.in-Some.total.now in
    let lower : c.down-below.result ≡ down_of c.in-Some.total.now = c.down-below.ensures ∙ ap down_of (read_back c.in-Some.total.now (search rules)) in
    omega (arith, lower, below_earlier (drop c.args.from c.args.settled) (length c.loop-total.yielded) x t.1 t.0, (within c.args.settled c.args.from long c.requires).1)

pub loop-total-preserved : goal.loop-total-preserved
loop-total-preserved c =
    let t = YieldsList-turn (YieldsList-from_skip c.args.from (YieldsList-from_slice c.args.settled cc) cc) c.loop-total.yielded _ c.loop-total.yielded_by _ _ c.in-Some.total c.in-Some.is c.next.ensures.steps in
    let x = c.in-Some.total.now in
    let rest = drop c.args.from c.args.settled in
    let upper : c.up-above.result ≡ up_of c.in-Some.total.now = c.up-above.ensures ∙ ap up_of (read_back c.in-Some.total.now (search rules)) in
    let lower : c.down-below.result ≡ down_of c.in-Some.total.now = c.down-below.ensures ∙ ap down_of (read_back c.in-Some.total.now (search rules)) in
    rw (length_push c.loop-total.yielded c.in-Some.total, add-one) (
      omega (arith, upper, above_earlier rest (length c.loop-total.yielded) x t.1 t.0),
      omega (arith, lower, below_earlier rest (length c.loop-total.yielded) x t.1 t.0),
    )

pub returns : goal.returns
returns c =
    let t = YieldsList-end (YieldsList-from_skip c.args.from (YieldsList-from_slice c.args.settled cc) cc) c.loop-total.yielded _ c.loop-total.yielded_by _ _ c.in-None.is c.next.ensures.steps in
    let none = none_behind_end (drop c.args.from c.args.settled) (length c.loop-total.yielded) (omega (arith, t.1)) in
    (omega (arith, none.0), omega (arith, none.1))
