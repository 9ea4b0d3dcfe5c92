-- The two digits of b, and the quotient is at most b. Assumes nothing.
use Prim.Native.Nat.{◌+◌, ◌*◌, ◌≤◌}
use native.Mathlib.Omega.{arith}
use Rattle.division.specs.Digits.{base, Parts}
use Rattle.division.proofs.Split.{two_digits, quotient_most}
use Rattle.division.proofs.digits.by_digits.Goals as goal

pub overflow_add-result : goal.overflow_add-result
overflow_add-result c =
    let both : Parts (c.args.r * c.args.b) c.args.d (c.digit-high.result.quotient * base + c.digit-low.result.quotient) c.digit-low.result.rest = let a = c.args in two_digits base a.r a.b a.d c.digit-high.ensures c.digit-low.ensures in
    let at_most : c.digit-high.result.quotient * base + c.digit-low.result.quotient ≤ c.args.b = let s = c in quotient_most s.args.r s.args.b s.args.d s.requires.0 both in
    omega (arith, at_most, c.requires.1)

pub returns : goal.returns
returns c =
    let both : Parts (c.args.r * c.args.b) c.args.d (c.digit-high.result.quotient * base + c.digit-low.result.quotient) c.digit-low.result.rest = let a = c.args in two_digits base a.r a.b a.d c.digit-high.ensures c.digit-low.ensures in
    both
