-- A number that a type holds is passed as itself; one that it can't hold as the type's largest value, or, below a signed type's range, as
-- its least. So what is passed is always within the type. Assumes nothing.
use mathlib.Core.Path.{◌≡◌, ap}
use mathlib.Core.Bool.{Bool, true, false, cond, ◌&&◌}
use Prim.Native.Nat.{ℕ, ◌-◌, ◌^◌, ◌≤◌, ◌<◌, min}
use native.Mathlib.Omega.{arith}
use borrow.Author.Tests.{lt-ltb, le-ltb}
use lib.Dec.{ltb}
use Rattle.whole.specs.Whole.{signed_of, held_signed}
use Rattle.lines.specs.Lines.{as_unsigned, as_signed}

pub unsigned_within : (largest : ℕ) (sign : Bool) (m : ℕ) → as_unsigned largest sign m ≤ largest
unfolding as_unsigned
unsigned_within largest sign m = at (sign && ltb 0 m)
  where
    at : (t : Bool) → cond t largest (min m largest) ≤ largest
    at true = omega arith
    at false = omega arith

pub unsigned_itself : (largest m : ℕ) → m ≤ largest → as_unsigned largest false m ≡ m
unfolding as_unsigned
unsigned_itself largest m h = omega arith

pub unsigned_below_zero : (largest m : ℕ) → 0 < m → as_unsigned largest true m ≡ largest
unfolding as_unsigned
unsigned_below_zero largest m h = rw (lt-ltb 0 m h)

-- the number with the magnitude that is left is what an i64 holds
pub signed_held : (sign : Bool) (k m : ℕ) → k ≡ min m (cond sign (2 ^ 63) (2 ^ 63 - 1)) → held_signed sign k ≡ as_signed sign m
unfolding as_signed
signed_held true k m e = rw (le-ltb (2 ^ 63) k (omega arith)) (ap (signed_of true) e)
signed_held false k m e = rw (le-ltb (2 ^ 63 - 1) k (omega arith)) (ap (signed_of false) e)
