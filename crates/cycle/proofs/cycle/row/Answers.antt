-- Each turn adds one place's bit. Assumes nothing.
use mathlib.Core.Path.{ap}
use mathlib.Core.List.{List}
use Prim.Native.Nat.{ℕ, ◌≤◌}
use native.Mathlib.Omega.{arith}
use borrow.Author.Rules.{rules}
use lib.ListN.{get_or}
use Rattle.running.proofs.Fitting.{product}
use Rattle.cycle.proofs.Bounds.{weight_within, total_within}
use Rattle.cycle.proofs.RowBits.{rowed_start, room, rowed_one, rowed_none, rowed_end}
use Rattle.cycle.proofs.cycle.row.Goals as goal
use Rattle.cycle.proofs.cycle.row.Goals.{then-n-weights, else-n-weights}

pub loop-i-init : goal.loop-i-init
loop-i-init c = rowed_start c.args.weights c.args.held c.args.n

pub overflow_mul-n : goal.overflow_mul-n
overflow_mul-n c =
    let a = c.args in
    let w = c.requires.weighed in
    omega (arith, product a.n (get_or a.weights c.loop-i.i 0) (omega (arith, w.most)) (weight_within a.weights a.sum w (search rules) c.loop-i.i c.loop-i-test.true))

pub overflow_mul-held : goal.overflow_mul-held
overflow_mul-held c =
    let a = c.args in
    let w = c.requires.weighed in
    let i = c.loop-i.i in
    let total = total_within a.weights a.sum w (search rules) a.n i c.loop-i-test.true in
    let h : get_or a.held i 0 ≤ 10000 = omega (arith, ap (λ (l : List ℕ). get_or l i 0) c.requires.n_lt_sum.1, total, w.most) in
    omega (arith, product (get_or a.held i 0) a.sum h w.most)

pub overflow_add-bits : goal.overflow_add-bits
overflow_add-bits c = omega (arith, room c.requires.weighed (search rules) c.args.n c.requires.n_lt_sum.1 c.loop-i.invariant c.loop-i-test.true)

pub loop-i-preserved : goal.loop-i-preserved
loop-i-preserved c =
    let r = c.requires in
    elim c.if-n-weights.branch [
      | then-n-weights w ↦ rw w.bits-is
          (rowed_one r.weighed (search rules) c.args.n r.n_lt_sum.1 c.loop-i.invariant c.loop-i-test.true w.if-n-weights.true)
      | else-n-weights w ↦ rw w.bits-is
          (rowed_none r.weighed (search rules) c.args.n r.n_lt_sum.1 c.loop-i.invariant c.loop-i-test.true w.if-n-weights.false)
    ]

pub returns : goal.returns
returns c = rowed_end c.requires.weighed (search rules) c.args.n c.requires.n_lt_sum.1 c.loop-i.invariant c.loop-i-test.false
