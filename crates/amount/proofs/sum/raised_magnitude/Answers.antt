-- FAR / 10^places is below m exactly where FAR is below m x 10^places, so that the product is made only where it is within FAR. Assumes nothing.
use mathlib.Core.Path.{◌≡◌, sym, ◌∙◌, ap}
use Prim.Native.Nat.{ℕ, ◌*◌, ◌/◌, ◌<◌, ◌≤◌, ◌^◌}
use native.Mathlib.Nat.{div-lt_iff_lt-mul, le-div_iff_mul-le, one-le-pow}
use native.Mathlib.Omega.{arith}
use borrow.Author.Tests.{lt-ltb, le-ltb}
use Rattle.currency.proofs.Tables.{power_of_ten_lem}
use Rattle.amount.specs.Raising.{far, nearest}
use Rattle.amount.proofs.sum.raised_magnitude.Goals as goal

far_within : (m tens : ℕ) → 0 < tens → m ≤ far / tens → m * tens ≤ far
far_within m tens some l = (le-div_iff_mul-le some).0 l

pub nonzero_div-tens : goal.nonzero_div-tens
nonzero_div-tens c =
    let tens_are : (c.power_of_ten-tens.result ≡ 10 ^ c.args.places) × (0 < c.power_of_ten-tens.result) =
    let k = c.args.places in
    let is = c.power_of_ten-tens.ensures ∙ power_of_ten_lem k (omega arith) in
    (is, omega (arith, is, one-le-pow k 10 (omega arith))) in
    tens_are.1

pub returns-then-tens-m : goal.returns-then-tens-m
returns-then-tens-m c =
    let tens_are : (c.power_of_ten-tens.result ≡ 10 ^ c.args.places) × (0 < c.power_of_ten-tens.result) =
    let k = c.args.places in
    let is = c.power_of_ten-tens.ensures ∙ power_of_ten_lem k (omega arith) in
    (is, omega (arith, is, one-le-pow k 10 (omega arith))) in
    let m = c.args.m in
    let tens = c.power_of_ten-tens.result in
    let more : far < m * tens = (div-lt_iff_lt-mul tens_are.1).0 c.if-tens-m.true in
    sym (ap (λ (x : ℕ). nearest (m * x)) (sym tens_are.0) ∙ rw (lt-ltb far (m * tens) more))

pub returns-else-tens-m : goal.returns-else-tens-m
returns-else-tens-m c =
    let tens_are : (c.power_of_ten-tens.result ≡ 10 ^ c.args.places) × (0 < c.power_of_ten-tens.result) =
    let k = c.args.places in
    let is = c.power_of_ten-tens.ensures ∙ power_of_ten_lem k (omega arith) in
    (is, omega (arith, is, one-le-pow k 10 (omega arith))) in
    let within : c.args.m * c.power_of_ten-tens.result ≤ far = far_within c.args.m c.power_of_ten-tens.result tens_are.1 c.if-tens-m.false in
    let m = c.args.m in
    let tens = c.power_of_ten-tens.result in
    sym (ap (λ (x : ℕ). nearest (m * x)) (sym tens_are.0) ∙ rw (le-ltb far (m * tens) within))
