-- The places passed hold the rows before this one, none of which is over L. Assumes nothing.
use mathlib.Core.Path.{sym, ◌∙◌, ap}
use Prim.Native.Nat.{ℕ, ◌+◌}
use native.Mathlib.Omega.{arith}
use Rattle.whole.proofs.Lists.{fill_none, fill_more}
use Rattle.balances.specs.Rule.{interest_on, balance_at}
use Rattle.balances.proofs.Rows.{first_row_lem, row_behind}
use Rattle.compound.proofs.Over.{none_yet, still_none}
use Rattle.compound.proofs.Filling.{fills_not}
use Rattle.compound.proofs.table.Table.fill.Goals as goal

pub loop-row-init : goal.loop-row-init
loop-row-init c = let a = c.args in record {
  row_is = sym (first_row_lem a.self.principal a.self.rate);
  none_over = none_yet a.self.principal a.self.rate;
  written = fill_none 0 _ _;
}

pub returns-then-balance-gt-L : goal.returns-then-balance-gt-L
returns-then-balance-gt-L c = let a = c.args in
    let at = c.loop-row in
    fills_not a.self.principal a.self.rate a.rows.now _ at.row-index at.balance (omega arith) at.invariant.row_is c.if-balance-gt-L.true

pub loop-row-preserved : goal.loop-row-preserved
loop-row-preserved c = let a = c.args in
    let at = c.loop-row in
    let known = at.invariant in record {
      row_is = c.next-balance.ensures ∙ ap (λ (b : ℕ). b + interest_on a.self.rate b) known.row_is ∙ sym (row_behind a.self.principal a.self.rate at.row-index);
      none_over = still_none a.self.principal a.self.rate at.row-index at.balance known.none_over known.row_is c.if-balance-gt-L.false;
      written =
          fill_more 0 (balance_at a.self.principal a.self.rate) a.rows.now at.rows at.row-index at.row-index _ known.written (omega arith) known.row_is;
    }
