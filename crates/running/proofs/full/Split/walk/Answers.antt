-- Each turn settles unit t + 1. Assumes nothing.
use mathlib.Core.Path.{◌∙◌}
use borrow.Author.Rules.{rules}
use Rattle.running.proofs.Straddling.{marked_none, marked_one}
use Rattle.running.proofs.Walked.{walked_start, long_ahead, walked_full, walked_straddle, walked_nobody}
use Rattle.running.proofs.full.Split.walk.Goals as goal
use Rattle.running.proofs.full.Split.walk.Goals.{then-settled-t+then-p-lt-PARTNERS, then-settled-t+else-p-lt-PARTNERS, else-settled-t}

pub loop-t-init : goal.loop-t-init
loop-t-init c =
    let s = c.args.self.now in
    let r = c.requires in
    (rw r.taken_value (walked_start s c.args.u r.starts), marked_none s c.due_numbers-due.result (search rules) c.due_numbers-due.ensures)

pub loop-t-preserved : goal.loop-t-preserved
loop-t-preserved c =
    let s = c.args.self.now in
    let u = c.args.u in
    let r = c.requires in
    let l = c.loop-t in
    let slots = c.args.slots.now in
    let slot = c.from-settled.ensures in
    let inside = c.loop-t-test.true in
    elim c.if-settled-t.branch [
      | then-settled-t+then-p-lt-PARTNERS w ↦ rw (w.due-is, w.ahead-is, w.settled-is) (
        walked_straddle s u r.starts l.t l.ahead l.settled l.invariant.0 slots r.listed _ slot inside l.due l.invariant.1 w.if-settled-t.true _ w.first_due-p.ensures
            w.if-p-lt-PARTNERS.true,
        marked_one s l.ahead l.due _ (long_ahead s u r.starts l.t l.ahead l.settled l.invariant.0 ∙ s.long) w.if-p-lt-PARTNERS.true l.invariant.1,
      )
      | then-settled-t+else-p-lt-PARTNERS w ↦ rw (w.due-is, w.ahead-is, w.settled-is) (
        walked_nobody s u r.starts l.t l.ahead l.settled l.invariant.0 slots r.listed _ slot inside l.due l.invariant.1 w.if-settled-t.true _ w.first_due-p.ensures
            w.if-p-lt-PARTNERS.false,
        l.invariant.1,
      )
      | else-settled-t w ↦ rw (w.due-is, w.ahead-is, w.settled-is) (
        walked_full s u r.starts l.t l.ahead l.settled l.invariant.0 slots r.listed _ slot inside w.if-settled-t.false,
        l.invariant.1,
      )
    ]
