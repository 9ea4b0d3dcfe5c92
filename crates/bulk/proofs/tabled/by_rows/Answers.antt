-- After j turns the first j calls are served for the book at the net total so far, whose totals are held. Assumes nothing.
use mathlib.Core.Path.{◌≡◌, refl, sym, ap, ◌∙◌}
use mathlib.Core.Bool.{Bool, cond}
use mathlib.Core.List.{List}
use Prim.Native.Nat.{ℕ, ◌+◌, ◌≤◌}
use native.Mathlib.Omega.{arith}
use borrow.Author.Rules.{rules}
use lib.IntN.{ℤ}
use lib.ListN.{length}
use Rattle.refusal.specs.Rows.{gives}
use mir.Syntax.{w64}
use mir.Val.{SFits, to_z, of_z}
use mir.ValLaws.{to_z-of_z}
use Rattle.whole.specs.Whole.{magnitude_of}
use Rattle.whole.proofs.Laws.{read_back}
use Rattle.amount.specs.Amounts.{largest}
use Rattle.book.specs.declared.Book.{Book}
use Rattle.book.specs.Settled.{any_over}
use Rattle.book.specs.Books.{settled_sum}
use Rattle.book.specs.Moves.{net_of, next_book}
use Rattle.bulk.specs.Left.{Sound}
use Rattle.bulk.specs.Serving.{ServedTo}
use Rattle.bulk.proofs.Steps.{served_lengths}
use Rattle.bulk.proofs.LeftSaid.{step_within}
use Rattle.bulk.proofs.Standing.{sound_net, sound_settled, Serving, serving_start, serving_step}
use Rattle.bulk.proofs.tabled.by_rows.Goals as goal

-- what is settled and the net total that a run starts with, as the program has them
record Started (b : Book) (settled start : ℕ) : Type 0 where
  pub sum : settled ≡ settled_sum b
  pub net : start ≡ net_of b
  pub limit : settled + start ≤ largest

started : (b : Book) → Sound b → (settled start : ℕ) → settled ≡ cond (any_over b.settled) 0 (settled_sum b)
    → SFits w64 b.net → start ≡ magnitude_of (to_z w64 (of_z w64 b.net)) → Started b settled start
started b sound settled start e fits f =
    let sum : settled ≡ settled_sum b = sound_settled b sound settled e in
    let net : start ≡ net_of b = f ∙ ap magnitude_of (to_z-of_z w64 b.net fits) in
    record { sum = sum; net = net; limit = rw (net, sum) (sound_net b sound).1 }

-- so the run has served the book, and the lent lists keep their lengths
module _ (b : Book) (sound : Sound b) (refunds : List Bool) (coefficients : List ℤ) (payouts numbers : List ℕ) (settled start : ℕ) (s : Started b settled start)
    (j n : ℕ) (ps ns : List ℕ) (so_far : Serving refunds coefficients payouts numbers b.weights settled start j n ps ns) where
  served : ServedTo b refunds coefficients payouts numbers j (next_book b (gives n)) ps ns
  served = so_far b sound refl (sym s.sum) (sym s.net)

  lengths : (length ps ≡ length payouts) × (length ns ≡ length numbers)
  lengths = served_lengths b refunds coefficients payouts numbers served

pub totals_by-held-requires-clause-n_le_largest : goal.totals_by-held-requires-clause-n_le_largest
totals_by-held-requires-clause-n_le_largest c =
    let r = c.requires in
    let s = started c.args.book r.sound _ c.magnitude-net.result c.settled_sum-settled.ensures (search rules) c.magnitude-net.ensures in
    omega (arith, s.limit)

pub loop-j-init : goal.loop-j-init
loop-j-init c =
    let s = started c.args.book c.requires.sound _ _ c.settled_sum-settled.ensures (search rules) c.magnitude-net.ensures in
    (s.limit, c.totals_by-held.ensures, serving_start _ _ _ _ _ _ _)

pub loop-j-preserved : goal.loop-j-preserved
loop-j-preserved c =
    let t = c.step-net in
    let a = c.args in (
      step_within c.loop-j.invariant.0 t.ensures,
      t.ensures.held,
      serving_step a.refunds.now a.coefficients.now a.payouts.now a.numbers.now a.book.weights _ _ _ (read_back _ (search rules)) c.loop-j.invariant.0 c.loop-j.invariant.2 t.ensures,
    )

pub returns : goal.returns
returns c =
    let a = c.args in
    let l = c.loop-j in
    let s = started a.book c.requires.sound _ c.magnitude-net.result c.settled_sum-settled.ensures (search rules) c.magnitude-net.ensures in
    let e : l.j ≡ length a.refunds.now = omega arith in
    (omega (arith, l.invariant.0), rw e at (served a.book c.requires.sound a.refunds.now a.coefficients.now a.payouts.now a.numbers.now _ _ s l.j l.net l.payouts l.numbers l.invariant.2))
