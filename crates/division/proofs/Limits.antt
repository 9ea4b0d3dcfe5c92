-- What the limits of a division are, from the test and to it. Assumes nothing.
use mathlib.Core.Path.{◌≡◌, refl}
use mathlib.Core.Bool.{Bool, true, false, ◌&&◌}
use Prim.Native.Nat.{ℕ, ◌<◌, ◌≤◌}
use borrow.Author.Tests.{le-leb, leb-true}
use lib.Dec.{leb}
use Rattle.division.specs.Division.{most, within}

pub both_true : (x y : Bool) → (x && y) ≡ true → (x ≡ true) × (y ≡ true)
both_true true true e = (refl, refl)
both_true true false e = (refl, e)
both_true false y e = (e, cc)

pub limits : (a b d : ℕ) → within a b d ≡ true → (a ≤ most) × (b ≤ most) × (0 < d) × (d ≤ most)
unfolding within
limits a b d e =
    let one = both_true (leb a most && leb b most && leb 1 d) (leb d most) e in
    let two = both_true (leb a most && leb b most) (leb 1 d) one.0 in
    let three = both_true (leb a most) (leb b most) two.0 in
    (leb-true a most three.0, leb-true b most three.1, leb-true 1 d two.1, leb-true d most one.1)

pub inside : (a b d : ℕ) → a ≤ most → b ≤ most → 0 < d → d ≤ most → within a b d ≡ true
unfolding within
inside a b d small other some large = simp (le-leb a most small, le-leb b most other, le-leb 1 d some, le-leb d most large)
