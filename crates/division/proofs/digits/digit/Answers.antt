-- The law of a digit, in the program's numbers: each of them is a part of `top`, below 2 d, or of `left`, below 2^62. Assumes nothing.
use native.Mathlib.Nat.{div-add-mod', mod-lt}
use native.Mathlib.Omega.{arith}
use Rattle.division.specs.Digits.{base}
use Rattle.division.proofs.Digit.{low, top, taken, left, digit as the-digit}
use Rattle.division.proofs.digits.digit.Goals as goal

pub returns : goal.returns
unfolding left taken top low
returns c = let a = c.args in
    let m = left base a.d a.rest a.r a.g in
    record {
      whole = omega (arith, the-digit base a.d (omega arith) c.requires.some a.rest a.r a.g, div-add-mod' m a.d);
      small = mod-lt m c.requires.some;
    }
