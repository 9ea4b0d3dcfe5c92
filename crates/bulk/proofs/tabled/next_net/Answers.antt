-- Each test is its row's. Assumes nothing.
use mathlib.Core.Path.{sym}
use Prim.Native.Nat.{ℕ, ◌+◌}
use borrow.Author.Tests.{lt-ltb, le-ltb}
use Rattle.amount.specs.Amounts.{largest}
use Rattle.refusal.specs.Rows.{Said, refuses}
use Rattle.bulk.specs.Left.{left_said}
use Rattle.bulk.proofs.LeftSaid.{same_either}
use Rattle.bulk.proofs.tabled.next_net.Goals as goal

pub returns-then-m-gt-L : goal.returns-then-m-gt-L
unfolding left_said
returns-then-m-gt-L c = let a = c.args in
    sym (simp (lt-ltb largest a.m c.if-m-gt-L.true) (same_either {A = Said ℕ} a.refund (refuses 3 0)))

pub returns-then-negative : goal.returns-then-negative
unfolding left_said
returns-then-negative c = let a = c.args in
    sym (simp (le-ltb largest a.m c.if-m-gt-L.false, c.if-negative.true) (same_either {A = Said ℕ} a.refund (refuses 10 0)))

pub returns-then-net-m : goal.returns-then-net-m
unfolding left_said
returns-then-net-m c = let a = c.args in
    sym (simp (c.if-refund.true, le-ltb largest a.m c.if-m-gt-L.false, c.if-negative.false, lt-ltb a.net a.m c.if-net-m.true))

pub returns-then-settled-net-gt-L : goal.returns-then-settled-net-gt-L
unfolding left_said
returns-then-settled-net-gt-L c = let a = c.args in
    sym (simp (c.if-refund.false, le-ltb largest a.m c.if-m-gt-L.false, c.if-negative.false, lt-ltb largest (a.settled + (a.net + a.m)) c.if-settled-net-gt-L.true))

pub returns-else-net-m : goal.returns-else-net-m
unfolding left_said
returns-else-net-m c = let a = c.args in
    sym (simp (c.if-refund.true, le-ltb largest a.m c.if-m-gt-L.false, c.if-negative.false, le-ltb a.net a.m c.if-net-m.false))

pub returns-else-settled-net-gt-L : goal.returns-else-settled-net-gt-L
unfolding left_said
returns-else-settled-net-gt-L c = let a = c.args in
    sym (simp (c.if-refund.false, le-ltb largest a.m c.if-m-gt-L.false, c.if-negative.false, le-ltb largest (a.settled + (a.net + a.m)) c.if-settled-net-gt-L.false))
