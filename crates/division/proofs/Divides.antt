-- From the parts of a division to the promise: within the limits the quotient with its rest, or the larger number; outside them the larger
-- number. Assumes nothing.
use mathlib.Core.Path.{◌≡◌, sym, ap₂, ◌∙◌}
use mathlib.Core.Bool.{true, false}
use Prim.Native.Nat.{ℕ, ◌*◌, ◌/◌, ◌<◌}
use native.Mathlib.Decide.{dec_lt}
use native.Mathlib.Omega.{arith}
use borrow.Author.Tests.{le-leb, lt-leb}
use Rattle.division.specs.declared.Division.{Division}
use Rattle.division.specs.Division.{most, within, too_large, division_of}
use Rattle.division.specs.Digits.{Parts, Caps, Divides}
use Rattle.division.proofs.Divided.{divided}

-- a division and its cap
pub capped_divides : (a b d : ℕ) {quotient rest q s : ℕ} → Parts (a * b) d quotient rest → Caps quotient rest q s → Divides a b d q s
capped_divides a b d {quotient} {rest} {q} {s} parts caps = record {
  within = λ l. rw ((caps.within l).0, (caps.within l).1) parts;
  over = λ l.
      let c = caps.over l in
      (omega (arith, c.0, (divided (a * b) d quotient rest parts.whole parts.small).0), c.1, c.2);
}

pub outside : (a b d : ℕ) → within a b d ≡ false → too_large ≡ division_of a b d
unfolding division_of
outside a b d e = rw e

pub divides_is : (a b d q s : ℕ) → within a b d ≡ true → Divides a b d q s → ◌≡◌ {A = Division} (record { quotient = q; rest = s }) (division_of a b d)
unfolding division_of
divides_is a b d q s e divides = go (dec_lt most q)
  where
    made : (x y : ℕ) → Division
    made x y = record { quotient = x; rest = y }

    go : Dec (most < q) → made q s ≡ division_of a b d
    go (yes more) =
        let o = divides.over more in
        ap₂ made o.1 o.2 ∙ rw (e, lt-leb (a * b / d) most o.0)
    go (no f) =
        let p = divides.within (omega arith) in
        let is = divided (a * b) d q s p.whole p.small in
        ap₂ made (sym is.0) (sym is.1) ∙ rw (e, le-leb (a * b / d) most (omega (arith, is.0)))
