-- Each turn reads one place's total off the row. Assumes nothing.
use native.Mathlib.Nat.{div-le_self}
use native.Mathlib.Omega.{arith}
use borrow.Author.Rules.{rules}
use Rattle.bulk.proofs.RowTotals.{scale, read_start, left_within, row_within, share_within, product_within, total_small, read_more, read_end}
use Rattle.bulk.proofs.reading.totals_by.Goals as goal

pub overflow_add-share : goal.overflow_add-share
overflow_add-share c = omega (arith, div-le_self scale c.args.sum)

pub overflow_mul-share : goal.overflow_mul-share
overflow_mul-share c =
    let a = c.args in
    omega (arith, share_within a.weights a.sum a.table.now a.n c.requires.weighed (search rules) c.requires.cycled)

pub offset_bounds-table-left : goal.offset_bounds-table-left
offset_bounds-table-left c =
    let a = c.args in
    omega (arith, left_within a.weights a.sum a.table.now a.n c.requires.weighed (search rules) c.requires.cycled, c.requires.weighed.most)

pub bounds-table-left : goal.bounds-table-left
bounds-table-left c =
    let a = c.args in
    row_within a.weights a.sum a.table.now a.n c.requires.weighed (search rules) c.requires.cycled

pub loop-i-init : goal.loop-i-init
loop-i-init c = let a = c.args in
    rw c.from-bits.ensures (read_start a.weights a.sum a.table.now a.n)

pub overflow_mul-held : goal.overflow_mul-held
overflow_mul-held c =
    let a = c.args in
    let l = c.loop-i in
    rw c.from-weight.ensures (omega (arith, total_small a.weights a.sum a.table.now a.n c.requires.weighed (search rules) c.requires.cycled l.bits l.held l.i l.invariant c.loop-i-test.true c.requires.n_le_largest))

pub overflow_mul-held-in-loop-i : goal.overflow_mul-held-in-loop-i
overflow_mul-held-in-loop-i c =
    let a = c.args in
    let l = c.loop-i in
    rw c.from-weight.ensures (omega (arith, product_within a.weights a.sum a.table.now a.n c.requires.weighed (search rules) c.requires.cycled l.bits l.held l.i l.invariant c.loop-i-test.true))

pub overflow_add-held : goal.overflow_add-held
overflow_add-held c =
    let a = c.args in
    let l = c.loop-i in
    rw c.from-weight.ensures (omega (arith, total_small a.weights a.sum a.table.now a.n c.requires.weighed (search rules) c.requires.cycled l.bits l.held l.i l.invariant c.loop-i-test.true c.requires.n_le_largest))

pub overflow_add-held-in-loop-i : goal.overflow_add-held-in-loop-i
overflow_add-held-in-loop-i c =
    let a = c.args in
    let l = c.loop-i in
    rw c.from-weight.ensures (omega (arith, total_small a.weights a.sum a.table.now a.n c.requires.weighed (search rules) c.requires.cycled l.bits l.held l.i l.invariant c.loop-i-test.true c.requires.n_le_largest))

pub loop-i-preserved : goal.loop-i-preserved
loop-i-preserved c =
    let a = c.args in
    let l = c.loop-i in
    rw c.from-weight.ensures (read_more a.weights a.sum a.table.now a.n c.requires.weighed (search rules) c.requires.cycled l.bits l.held l.i l.invariant c.loop-i-test.true)

pub returns : goal.returns
returns c =
    let a = c.args in
    let l = c.loop-i in
    read_end a.weights a.sum a.table.now a.n c.requires.weighed (search rules) c.requires.cycled l.bits l.held l.i l.invariant c.loop-i-test.false
