-- Row 4; else a long text or a short one. Assumes nothing.
use mathlib.Core.Path.{sym}
use borrow.Author.Tests.{lt-ltb}
use Rattle.text.proofs.Numbers.{unknown_said}
use Rattle.text.proofs.reading.read.Goals as goal

pub returns-then-currency-gt-LAST : goal.returns-then-currency-gt-LAST
returns-then-currency-gt-LAST c = let a = c.args in sym (unknown_said a.currency a.bytes.now (lt-ltb _ _ c.if-currency-gt-LAST.true))
