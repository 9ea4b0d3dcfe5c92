-- The digits of the power and the rest together begin with its 1, where the point goes. Assumes nothing.
use mathlib.Core.Path.{◌≡◌, sym, ◌∙◌, ap}
use mathlib.Core.Bool.{false}
use mathlib.Core.List.{List}
use Prim.Native.Nat.{ℕ, suc, ◌+◌, ◌*◌, ◌%◌, ◌^◌, ◌≤◌, ◌<◌}
use native.Mathlib.Nat.{one-le-pow, pow-le-pow_right, mod-lt}
use native.Mathlib.Omega.{arith}
use lib.ListN.{length, set}
use Rattle.lines.specs.Texts.{decimal, text_of, put_at}
use Rattle.lines.proofs.Puts.{put_length}
use Rattle.currency.specs.Tens.{power_of_ten}
use Rattle.currency.proofs.Tables.{power_of_ten_lem}
use Rattle.text.specs.Grammar.{pointed}
use Rattle.text.specs.Written.{last_digits}
use Rattle.text.proofs.Spelled.{last_length}
use Rattle.text.proofs.Placed.{put_none, put_over, no_point, point_length, pointed_digits, power_digits}
use Rattle.text.proofs.writing.put_fraction.Goals as goal

module _ (scale p : ℕ) (few : scale ≤ 6) (power : p ≡ power_of_ten scale) where
  is_power : p ≡ 10 ^ scale
  is_power = power ∙ power_of_ten_lem scale (omega arith)

  not_zero : 1 ≤ p
  not_zero = omega (arith, is_power, one-le-pow scale 10 (omega arith))

  -- the power and the rest together stay in a word
  at_most_twice : (m : ℕ) → p + m % p < 2 * 10 ^ 6
  at_most_twice m =
      let most : 10 ^ scale ≤ 10 ^ 6 = pow-le-pow_right (omega arith) few in
      omega (arith, is_power, most, mod-lt m {m = p} not_zero)

  -- the point over the 1
  point_put
      : (out o : List ℕ) (at m : ℕ) → 0 < scale → at + length (pointed (last_digits scale m)) ≤ length out
      → o ≡ put_at out at (text_of false (p + m % p)) → set o at 46 ≡ put_at out at (pointed (last_digits scale m))
  unfolding text_of
  point_put out o at m some room put =
      let room_for : at + suc (length (last_digits scale m)) ≤ length out = omega (arith, room, point_length scale m some, last_length scale m) in
      ap (λ (o : List ℕ). set o at 46)
      (put ∙ ap (λ (x : ℕ). put_at out at (decimal 20 (x + m % x))) is_power ∙ ap (put_at out at) (power_digits 20 scale m (omega arith)))
      ∙ put_over out at 49 46 (last_digits scale m) room_for
      ∙ ap (put_at out at) (sym (pointed_digits scale m some))

pub returns-then-scale-eq0 : goal.returns-then-scale-eq0
returns-then-scale-eq0 c =
    let a = c.args in
    rw (no_point a.scale a.m c.if-scale-eq0.true) (sym (put_none a.out.now a.at (omega (arith, c.requires.1))))

pub nonzero_rem-m : goal.nonzero_rem-m
nonzero_rem-m c = omega (arith, not_zero _ _ c.requires.0 c.power_of_ten-power.ensures)

pub overflow_add-power : goal.overflow_add-power
overflow_add-power c = omega (arith, at_most_twice _ _ c.requires.0 c.power_of_ten-power.ensures c.args.m)

pub bounds-out-at : goal.bounds-out-at
bounds-out-at c =
    let a = c.args in
    let p = c.power_of_ten-power.result in
    omega
    (arith, ap length c.put_number.ensures.out_after, put_length a.out.now a.at (text_of false (p + a.m % p)), c.requires.1, point_length a.scale a.m (omega (arith, c.if-scale-eq0.false)))

pub returns : goal.returns
returns c =
    point_put _ _ c.requires.0 c.power_of_ten-power.ensures _ _ _ _ (omega (arith, c.if-scale-eq0.false)) c.requires.1 c.put_number.ensures.out_after
