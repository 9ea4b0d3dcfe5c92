-- A number has one digit more than the largest power of ten below it has zeros. Assumes nothing.
use Prim.Native.Nat.{◌+◌, ◌*◌, ◌^◌}
use mathlib.Core.Path.{◌≡◌}
use native.Mathlib.Nat.{pow-suc}
use native.Mathlib.Numerals.{add-one}
use native.Mathlib.Omega.{arith}
use Rattle.lines.proofs.Fills.{counted}
use Rattle.lines.proofs.texts.places.Goals as goal

pub returns-in-Some : goal.returns-in-Some
returns-in-Some c =
    let k = c.in-Some.tens in
    let power : 10 ^ (k + 1) ≡ 10 * 10 ^ k = rw add-one (omega (arith, pow-suc 10 k)) in
    counted (k + 1) c.args.m (omega arith) (omega (arith, c.in-Some.ensures)) (omega (arith, c.in-Some.ensures)) (omega (arith, c.in-Some.ensures))

pub returns-in-None : goal.returns-in-None
returns-in-None c = counted 1 c.args.m (omega arith) (omega arith) (omega (arith, c.in-None.ensures)) (omega arith)
