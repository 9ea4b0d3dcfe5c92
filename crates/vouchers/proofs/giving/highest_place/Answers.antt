-- The place, its weight and one more than it holds are those of the highest average among the places passed.
-- Assumes nothing.
use mathlib.Core.Path.{sym, ◌∙◌, ap}
use Prim.Native.Nat.{ℕ, ◌+◌}
use lib.ListN.{get_or}
use Rattle.average.proofs.Highest.{scan_start, scan_higher, scan_past}
use Rattle.vouchers.proofs.giving.highest_place.Goals as goal
use Rattle.vouchers.proofs.giving.highest_place.Goals.{then-weight-after, else-weight-after}

pub loop-i-init : goal.loop-i-init
loop-i-init c = (sym (scan_start _ _), c.from-weight.ensures, ap (λ (n : ℕ). n + 1) c.from-next.ensures)

pub loop-i-preserved : goal.loop-i-preserved
loop-i-preserved c =
    let at = c.loop-i in
    let ws = c.args.weights.now in
    let held = c.args.held.now in
    elim c.if-weight-after.branch [
      | then-weight-after w ↦ (
        w.place-is ∙ scan_higher ws held at.i at.place at.weight at.next at.invariant.0 at.invariant.1 at.invariant.2 (rw (c.from-after.ensures, c.from-own.ensures) at w.if-weight-after.true),
        w.weight-is ∙ c.from-own.ensures ∙ ap (λ (p : ℕ). get_or ws p 0) (sym w.place-is),
        w.next-is ∙ ap (λ (n : ℕ). n + 1) c.from-after.ensures ∙ ap (λ (p : ℕ). get_or held p 0 + 1) (sym w.place-is),
      )
      | else-weight-after w ↦ (
        w.place-is ∙ scan_past ws held at.i at.place at.weight at.next at.invariant.0 at.invariant.1 at.invariant.2 (rw (c.from-after.ensures, c.from-own.ensures) at w.if-weight-after.false),
        w.weight-is ∙ at.invariant.1 ∙ ap (λ (p : ℕ). get_or ws p 0) (sym w.place-is),
        w.next-is ∙ at.invariant.2 ∙ ap (λ (p : ℕ). get_or held p 0 + 1) (sym w.place-is),
      )
    ]
