-- The quotient of a, times b, and the quotient of what is left. Assumes nothing.
use mathlib.Core.Path.{◌≡◌, sym, ◌∙◌, subst}
use Prim.Native.Nat.{ℕ, ◌-◌, ◌*◌, ◌/◌, ◌%◌}
use native.Mathlib.Nat.{div-add-mod'}
use native.Mathlib.Omega.{arith}
use borrow.Author.Tests.{ltb-true}
use Rattle.division.specs.Division.{most}
use Rattle.division.specs.Digits.{Parts}
use Rattle.division.proofs.Split.{over_first, whole_parts}
use Rattle.division.proofs.Divides.{capped_divides}
use Rattle.division.proofs.parts.by_parts.Goals as goal

rest_is : (n d : ℕ) → n - n / d * d ≡ n % d
rest_is n d = omega (arith, div-add-mod' n d)

pub returns-then-is_over : goal.returns-then-is_over
returns-then-is_over c = let a = c.args in
    over_first a.a a.b a.d c.requires.1
    (ltb-true most (a.a / a.d * a.b) (sym c.is_over.ensures ∙ c.if-is_over.true))

pub returns : goal.returns
returns c = let s = c in
    let a = s.args in
    let x = c.below_divisor-part in
    capped_divides a.a a.b a.d
    (whole_parts a.a a.b a.d s.requires.1
    (subst (λ (r : ℕ). Parts (r * a.b) a.d x.result.quotient x.result.rest) (rest_is a.a a.d) x.ensures))
    c.cap.ensures
