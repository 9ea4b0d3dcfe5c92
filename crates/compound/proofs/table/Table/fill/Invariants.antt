-- The places passed hold the rows before this one, none of which is over L. Assumes nothing.
use mathlib.Core.Path.{◌≡◌}
use mathlib.Core.Bool.{false}
use Rattle.whole.specs.Lists.{filled}
use Rattle.balances.specs.Rule.{balance_at}
use Rattle.compound.specs.Table.{any_over}
use Rattle.compound.proofs.table.Table.fill.Given as goal

abbrev pub invariant-loop-row : goal.invariant-loop-row
invariant-loop-row l = record {
  row_is : l.balance ≡ balance_at l.self.principal l.self.rate l.row-index;
  none_over : any_over l.self.principal l.self.rate l.row-index ≡ false;
  written : l.rows ≡ filled 0 (balance_at l.self.principal l.self.rate) l.row-index l.initial.rows;
}
