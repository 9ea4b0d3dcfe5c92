-- Where a row is over L nothing is copied; else all rows are within L, and the copy is the table. Assumes nothing.
use Rattle.std.proofs.lemmas.Result.{err_from_is_err_and}
use Rattle.compound.proofs.Filling.{writes_not, ready, writes_all}
use Rattle.compound.proofs.table.Table.write_by.Goals as goal

pub returns-in_err-fill : goal.returns-in_err-fill
returns-in_err-fill c = let f = c.fill in
    let a = c.args in
    let p = err_from_is_err_and c.from_residual.result c.from_residual.ensures.1 in
    rw (p.1, p.2)
    (writes_not a.self.principal a.self.rate a.rows.now f.new.rows f.result f.ensures a.out.now c.in_err-fill.field-0.0 c.in_err-fill.was)

pub copy-requires-clause-within : goal.copy-requires-clause-within
copy-requires-clause-within c = let f = c.fill in
    let a = c.args in
    ready a.self.principal a.self.rate a.rows.now f.new.rows f.result f.ensures c.in_ok-fill.was

pub returns : goal.returns
returns c = let f = c.fill in
    let a = c.args in
    let w = c.copy in
    writes_all a.self.principal a.self.rate a.rows.now f.new.rows f.result f.ensures c.in_ok-fill.was a.out.now w.new.out w.ensures
