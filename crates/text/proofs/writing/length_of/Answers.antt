-- The text's length is that of its pieces. Assumes nothing.
use mathlib.Core.Path.{◌≡◌, ◌∙◌, ap}
use mathlib.Core.Bool.{Bool, true, false}
use Prim.Native.Nat.{ℕ, ◌+◌, ◌/◌, ◌^◌, ◌≤◌}
use native.Mathlib.Nat.{one-le-pow}
use native.Mathlib.Omega.{arith}
use lib.ListN.{length}
use Rattle.lines.specs.Texts.{decimal}
use Rattle.lines.proofs.Decimal.{decimal_short}
use Rattle.currency.specs.Tens.{power_of_ten}
use Rattle.currency.proofs.Tables.{power_of_ten_lem}
use Rattle.text.specs.Grammar.{minus}
use Rattle.text.proofs.Placed.{no_point, point_length, spelled_length}
use Rattle.text.proofs.writing.length_of.Goals as goal
use Rattle.text.proofs.writing.length_of.Goals.{then-negative, else-negative}

module _ (scale p : ℕ) (few : scale ≤ 6) (power : p ≡ power_of_ten scale) where
  is_power : p ≡ 10 ^ scale
  is_power = power ∙ power_of_ten_lem scale (omega arith)

  not_zero : 1 ≤ p
  not_zero = omega (arith, is_power, one-le-pow scale 10 (omega arith))

  -- how many digits the whole units have
  module _ (m q : ℕ) (digits : q ≡ length (decimal 20 (m / p))) where
    counted : q ≡ length (decimal 20 (m / 10 ^ scale))
    counted = digits ∙ ap (λ (x : ℕ). length (decimal 20 (m / x))) is_power

    at_most_20 : q ≤ 20
    at_most_20 = omega (arith, counted, decimal_short 20 (m / 10 ^ scale))

pub nonzero_div-m : goal.nonzero_div-m
nonzero_div-m c = omega (arith, not_zero _ _ c.requires c.power_of_ten.ensures)

pub overflow_add-count : goal.overflow_add-count
overflow_add-count c = omega (arith, at_most_20 _ _ c.requires c.power_of_ten.ensures _ _ c.places-count.ensures)

-- a minus is one byte
minus_one : (negative : Bool) (q count : ℕ) → negative ≡ true → count ≡ q + 1 → count ≡ length (minus negative) + q
minus_one negative q count n e = omega (arith, e, ap (λ (s : Bool). length (minus s)) n)

no_minus : (negative : Bool) (q count : ℕ) → negative ≡ false → count ≡ q → count ≡ length (minus negative) + q
no_minus negative q count n e = omega (arith, e, ap (λ (s : Bool). length (minus s)) n)

-- the sign's and the whole units' bytes, and behind them the point's
pub returns-then-scale-eq0 : goal.returns-then-scale-eq0
returns-then-scale-eq0 c =
    let a = c.args in
    let pieces : c.if-negative.count ≡ length (minus a.negative) + c.places-count.result =
    elim c.if-negative.branch [ then-negative w ↦ minus_one _ _ _ w.if-negative.true w.count-is | else-negative w ↦ no_minus _ _ _ w.if-negative.false w.count-is ] in
    omega
    (arith, pieces, counted _ _ c.requires c.power_of_ten.ensures _ _ c.places-count.ensures, spelled_length a.negative a.m a.scale, ap length (no_point a.scale a.m c.if-scale-eq0.true))

pub overflow_add-result : goal.overflow_add-result
overflow_add-result c =
    let most = at_most_20 _ _ c.requires c.power_of_ten.ensures _ _ c.places-count.ensures in
    elim c.if-negative.branch [ then-negative w ↦ omega arith | else-negative w ↦ omega arith ]

pub overflow_add-result-2 : goal.overflow_add-result-2
overflow_add-result-2 c =
    let most = at_most_20 _ _ c.requires c.power_of_ten.ensures _ _ c.places-count.ensures in
    elim c.if-negative.branch [ then-negative w ↦ omega arith | else-negative w ↦ omega arith ]

pub returns : goal.returns
returns c =
    let a = c.args in
    let pieces : c.if-negative.count ≡ length (minus a.negative) + c.places-count.result =
    elim c.if-negative.branch [ then-negative w ↦ minus_one _ _ _ w.if-negative.true w.count-is | else-negative w ↦ no_minus _ _ _ w.if-negative.false w.count-is ] in
    omega
    (arith, pieces, counted _ _ c.requires c.power_of_ten.ensures _ _ c.places-count.ensures, spelled_length a.negative a.m a.scale, point_length a.scale a.m (omega (arith, c.if-scale-eq0.false)))
