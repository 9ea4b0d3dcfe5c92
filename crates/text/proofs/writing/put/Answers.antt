-- The three pieces, each behind the other, are the text. Assumes nothing.
use mathlib.Core.Path.{◌≡◌, ◌∙◌, ap}
use Prim.Native.Nat.{ℕ, ◌/◌, ◌^◌, ◌≤◌}
use native.Mathlib.Nat.{one-le-pow}
use native.Mathlib.Omega.{arith}
use Rattle.currency.specs.Tens.{power_of_ten}
use Rattle.currency.proofs.Tables.{power_of_ten_lem}
use Rattle.text.proofs.Placed.{third_fits, all_put}
use Rattle.text.proofs.writing.put.Goals as goal

-- what `power_of_ten` answers
is_power : (scale p : ℕ) → scale ≤ 6 → p ≡ power_of_ten scale → p ≡ 10 ^ scale
is_power scale p few e = e ∙ power_of_ten_lem scale (omega arith)

pub nonzero_div-m : goal.nonzero_div-m
nonzero_div-m c = omega (arith, is_power _ _ c.requires.0 c.power_of_ten.ensures, one-le-pow c.args.scale 10 (omega arith))

pub put_fraction-requires : goal.put_fraction-requires
put_fraction-requires c =
    let a = c.args in
    let units = ap (λ (x : ℕ). a.m / x) (is_power _ _ c.requires.0 c.power_of_ten.ensures) in (
      c.requires.0,
      third_fits a.out.now c.put_sign-at.new.out c.put_number-end.new.out a.negative a.m a.scale (a.m / c.power_of_ten.result) c.put_sign-at.result c.put_number-end.result
          c.requires.1 c.put_sign-at.ensures.out_after c.put_sign-at.ensures.value units c.put_number-end.ensures.out_after c.put_number-end.ensures.value,
    )

pub returns : goal.returns
returns c =
    let a = c.args in
    let units = ap (λ (x : ℕ). a.m / x) (is_power _ _ c.requires.0 c.power_of_ten.ensures) in
    all_put a.out.now c.put_sign-at.new.out c.put_number-end.new.out a.negative a.m a.scale (a.m / c.power_of_ten.result) c.put_sign-at.result c.put_number-end.result
    c.requires.1 c.put_sign-at.ensures.out_after c.put_sign-at.ensures.value units c.put_number-end.ensures.out_after c.put_number-end.ensures.value c.put_fraction.new.out c.put_fraction.ensures
