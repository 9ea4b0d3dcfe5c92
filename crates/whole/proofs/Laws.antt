-- A whole number is its sign and its magnitude, and an i64 holds every magnitude below 2^63 with either sign. Assumes nothing.
use mathlib.Core.Path.{◌≡◌, refl}
use mathlib.Core.Bool.{Bool, true, false, not}
use Prim.Native.Nat.{ℕ, zero, suc, ◌<◌, ◌^◌}
use native.Mathlib.Omega.{arith}
use borrow.Author.Tests.{le-ltb}
use lib.IntN.{ℤ, pos, negsuc, neg_ℤ}
use lib.Signed.{mag}
use mir.Syntax.{w64}
use mir.Val.{to_z, of_z}
use mir.ValLaws.{to_z-of_z}
use Rattle.whole.specs.Whole.{negative, magnitude_of, signed_of, held_signed, reach}

pub sign_and_magnitude : (z : ℤ) → signed_of (negative z) (magnitude_of z) ≡ z
sign_and_magnitude (pos n) = refl
sign_and_magnitude (negsuc n) = refl

pub magnitude_signed : (sign : Bool) (m : ℕ) → magnitude_of (signed_of sign m) ≡ m
magnitude_signed false m = refl
magnitude_signed true zero = refl
magnitude_signed true (suc m) = refl

-- 0 has no sign, so the sign comes back of what is above 0
pub negative_signed : (sign : Bool) (m : ℕ) → 0 < m → negative (signed_of sign m) ≡ sign
negative_signed false m h = refl
negative_signed true zero h = absurd (omega arith)
negative_signed true (suc m) h = refl

pub signed_zero_lem : (sign : Bool) → signed_of sign 0 ≡ pos 0
signed_zero_lem false = refl
signed_zero_lem true = refl

-- the other sign is the opposite number
pub signed_opposite : (sign : Bool) (m : ℕ) → signed_of (not sign) m ≡ neg_ℤ (signed_of sign m)
signed_opposite false zero = refl
signed_opposite false (suc m) = refl
signed_opposite true zero = refl
signed_opposite true (suc m) = refl

pub magnitude_opposite : (z : ℤ) → magnitude_of (neg_ℤ z) ≡ magnitude_of z
magnitude_opposite (pos zero) = refl
magnitude_opposite (pos (suc n)) = refl
magnitude_opposite (negsuc n) = refl

pub held_within : (sign : Bool) (m : ℕ) → m < 2 ^ 63 → held_signed sign m ≡ signed_of sign m
held_within true m h = rw (le-ltb (2 ^ 63) m (omega arith))
held_within false m h = rw (le-ltb (reach false) m (omega arith))

-- as the machine reads back an i64 that it holds
pub read_back : (z : ℤ) → mag z < 2 ^ 63 → to_z w64 (of_z w64 z) ≡ z
read_back z h = to_z-of_z w64 z (record { sfits = h })
