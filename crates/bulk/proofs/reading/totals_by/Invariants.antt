-- Each turn reads one place's total off the row. Assumes nothing.
use Rattle.bulk.proofs.RowTotals.{Read}
use Rattle.bulk.proofs.reading.totals_by.Given as goal

abbrev pub invariant-loop-i : goal.invariant-loop-i
invariant-loop-i l = Read l.weight-items l.sum l.table l.n l.bits l.held l.i
