-- Each test of the check is its row's. Assumes nothing.
use borrow.Author.Tests.{lt-ltb, le-ltb, eq-eqb, ne_eqb}
use Rattle.amount.specs.Sum.{pair_rows}
use Rattle.amount.proofs.sum.check_two.Goals as goal

pub returns-then-s-gt-SCALE : goal.returns-then-s-gt-SCALE
unfolding pair_rows
returns-then-s-gt-SCALE c = simp (lt-ltb _ _ c.if-s-gt-SCALE.true)

pub returns-then-t-gt-SCALE : goal.returns-then-t-gt-SCALE
unfolding pair_rows
returns-then-t-gt-SCALE c = simp (le-ltb _ _ c.if-s-gt-SCALE.false, lt-ltb _ _ c.if-t-gt-SCALE.true)

pub returns-then-m-gt-L : goal.returns-then-m-gt-L
unfolding pair_rows
returns-then-m-gt-L c = simp (le-ltb _ _ c.if-s-gt-SCALE.false, le-ltb _ _ c.if-t-gt-SCALE.false, lt-ltb _ _ c.if-m-gt-L.true)

pub returns-then-n-gt-L : goal.returns-then-n-gt-L
unfolding pair_rows
returns-then-n-gt-L c = let b = c in
    simp (le-ltb _ _ b.if-s-gt-SCALE.false, le-ltb _ _ b.if-t-gt-SCALE.false, le-ltb _ _ c.if-m-gt-L.false, lt-ltb _ _ c.if-n-gt-L.true)

pub returns-then-c-gt-LAST : goal.returns-then-c-gt-LAST
unfolding pair_rows
returns-then-c-gt-LAST c = let b = c in
    simp
    (le-ltb _ _ b.if-s-gt-SCALE.false, le-ltb _ _ b.if-t-gt-SCALE.false, le-ltb _ _ b.if-m-gt-L.false, le-ltb _ _ b.if-n-gt-L.false, lt-ltb _ _ c.if-c-gt-LAST.true)

pub returns-then-d-gt-LAST : goal.returns-then-d-gt-LAST
unfolding pair_rows
returns-then-d-gt-LAST c = let k = c in
    let b = k in
    simp
    (le-ltb _ _ b.if-s-gt-SCALE.false, le-ltb _ _ b.if-t-gt-SCALE.false, le-ltb _ _ b.if-m-gt-L.false, le-ltb _ _ b.if-n-gt-L.false, le-ltb _ _ k.if-c-gt-LAST.false, lt-ltb _ _ c.if-d-gt-LAST.true)

pub returns-then-c-d : goal.returns-then-c-d
unfolding pair_rows
returns-then-c-d c = let l = c in
    let k = l in
    let b = k in
    simp
    (le-ltb _ _ b.if-s-gt-SCALE.false, le-ltb _ _ b.if-t-gt-SCALE.false, le-ltb _ _ b.if-m-gt-L.false, le-ltb _ _ b.if-n-gt-L.false, le-ltb _ _ k.if-c-gt-LAST.false, le-ltb _ _ l.if-d-gt-LAST.false, ne_eqb _ _ c.if-c-d.true)

pub returns : goal.returns
unfolding pair_rows
returns c = let l = c in
    let k = l in
    let b = k in
    simp
    (le-ltb _ _ b.if-s-gt-SCALE.false, le-ltb _ _ b.if-t-gt-SCALE.false, le-ltb _ _ b.if-m-gt-L.false, le-ltb _ _ b.if-n-gt-L.false, le-ltb _ _ k.if-c-gt-LAST.false, le-ltb _ _ l.if-d-gt-LAST.false, eq-eqb _ _ c.if-c-d.false)
