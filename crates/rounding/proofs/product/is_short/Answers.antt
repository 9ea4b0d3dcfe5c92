-- Each test is the definition's. Assumes nothing.
use borrow.Author.Tests.{le-leb, lt-leb}
use Rattle.rounding.specs.Short.{is_short}
use Rattle.rounding.proofs.product.is_short.Goals as goal

pub returns-then-a-b-lt69 : goal.returns-then-a-b-lt69
unfolding is_short
returns-then-a-b-lt69 c = simp (lt-leb _ _ c.if-a-b-lt69.true)

pub returns-then-d-lt1 : goal.returns-then-d-lt1
unfolding is_short
returns-then-d-lt1 c = simp (le-leb _ _ c.if-a-b-lt69.false, lt-leb _ _ c.if-d-lt1.true)

pub returns : goal.returns
unfolding is_short
returns c = simp (le-leb _ _ c.if-a-b-lt69.false, le-leb _ _ c.if-d-lt1.false)
