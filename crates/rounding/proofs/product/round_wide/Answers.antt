-- The quotient is over 10^18, or within it, and the rule adds at most one. Assumes nothing.
use mathlib.Core.Path.{◌≡◌, ◌∙◌, ap, ap₂}
use mathlib.Core.Bool.{Bool, true, false}
use Prim.Native.Nat.{ℕ, ◌+◌, ◌*◌, ◌/◌, ◌%◌, ◌≤◌}
use native.Mathlib.Nat.{mod-lt}
use native.Mathlib.Omega.{arith}
use mir.Syntax.{w64}
use mir.Val.{Fits, bool_byte}
use Rattle.division.specs.declared.Division.{Division}
use Rattle.division.specs.Division.{most, within, division_of}
use Rattle.division.proofs.Limits.{limits}
use Rattle.rounding.specs.Modes.{rises_by}
use Rattle.rounding.specs.Leaf.{rest_of, is_odd, raised}
use Rattle.rounding.proofs.Bounds.{raised_is}
use Rattle.rounding.proofs.Capped.{rounded_over, division_within, rounded_within}
use Rattle.rounding.proofs.product.round_wide.Goals as goal

-- where it is within: the limits hold, and it and the rest are the product's
record Known (a b d q s : ℕ) : Type 0 where
  limited : within a b d ≡ true
  quotient : q ≡ a * b / d
  rest : s ≡ a * b % d

fits : (b : Bool) (q : ℕ) → q ≤ most → Fits w64 (q + bool_byte b)
fits true q l = record { fits = omega arith }
fits false q l = record { fits = omega arith }

pub returns-then-quotient-gt-MOST : goal.returns-then-quotient-gt-MOST
returns-then-quotient-gt-MOST c =
    let quotient_is : c.divide-division.result.quotient ≡ (division_of c.args.a c.args.b c.args.d).quotient = ap (λ (x : Division). x.quotient) c.divide-division.ensures in
    let a = c.args in
    rounded_over a.rule a.negative a.a a.b a.d (omega (arith, c.if-quotient-gt-MOST.true, quotient_is))

pub class-rest-requires : goal.class-rest-requires
class-rest-requires c =
    let quotient_is : c.divide-division.result.quotient ≡ (division_of c.args.a c.args.b c.args.d).quotient = ap (λ (x : Division). x.quotient) c.divide-division.ensures in
    let known : Known c.args.a c.args.b c.args.d c.divide-division.result.quotient c.divide-division.result.rest = let a = c.args in let w = division_within a.rule a.negative a.a a.b a.d (omega (arith, c.if-quotient-gt-MOST.false, quotient_is)) in record { limited = w.0; quotient = quotient_is ∙ w.1; rest = ap (λ (x : Division). x.rest) c.divide-division.ensures ∙ w.2 } in
    let a = c.args in
    omega (arith, known.rest, mod-lt (a.a * a.b) (limits a.a a.b a.d known.limited).2)

pub returns : goal.returns
unfolding is_odd
returns c =
    let quotient_is : c.divide-division.result.quotient ≡ (division_of c.args.a c.args.b c.args.d).quotient = ap (λ (x : Division). x.quotient) c.divide-division.ensures in
    let known : Known c.args.a c.args.b c.args.d c.divide-division.result.quotient c.divide-division.result.rest = let a = c.args in let w = division_within a.rule a.negative a.a a.b a.d (omega (arith, c.if-quotient-gt-MOST.false, quotient_is)) in record { limited = w.0; quotient = quotient_is ∙ w.1; rest = ap (λ (x : Division). x.rest) c.divide-division.ensures ∙ w.2 } in
    let asked : c.rises.result ≡ rises_by c.args.rule c.args.negative (is_odd c.divide-division.result.quotient) (rest_of c.divide-division.result.rest c.args.d) = let a = c.args in let x = c.divide-division.result in c.rises.ensures ∙ ap (λ y. rises_by a.rule a.negative (is_odd x.quotient) y) c.class-rest.ensures in
    let s = c in
    let a = s.args in
    let x = c.divide-division.result in
    let k = known in
    raised_is c.rises.result x.quotient
    ∙ ap (λ b. raised b x.quotient) asked
    ∙ ap₂ (λ (q r : ℕ). raised (rises_by a.rule a.negative (is_odd q) (rest_of r a.d)) q) k.quotient k.rest
    ∙ rounded_within a.rule a.negative a.a a.b a.d k.limited (omega (arith, c.if-quotient-gt-MOST.false, k.quotient))
