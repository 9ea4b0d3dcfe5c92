-- The order of signed numbers by sign and magnitude: from 0 on the magnitudes keep the order, below 0 they turn it. Assumes nothing.
use mathlib.Core.Path.{◌≡◌, refl, sym}
use mathlib.Core.Bool.{Bool, true, false}
use Prim.Native.Nat.{ℕ, zero, suc, ◌*◌, ◌≤◌, zero-le}
use native.Mathlib.Nat.{zero-mul}
use native.Mathlib.Omega.{arith}
use lib.Dec.{le→leb}
use lib.IntN.{pos, ◌*ℤ◌}
use lib.Signed.{◌≤ℤ◌, le_z_yes}
use Rattle.whole.specs.Whole.{signed_of}
use Rattle.whole.proofs.Laws.{signed_opposite}

-- magnitudes in the order of their numbers
abbrev pub InOrder : (negative : Bool) (a b : ℕ) → Type 0
InOrder true a b = b ≤ a
InOrder false a b = a ≤ b

pub signed_order : (negative : Bool) (a b : ℕ) → InOrder negative a b → signed_of negative a ≤ℤ signed_of negative b
signed_order false a b h = le_z_yes (le→leb a b h)
signed_order true zero zero h = le_z_yes tt
signed_order true zero (suc b) h = absurd (omega arith)
signed_order true (suc a) zero h = le_z_yes tt
signed_order true (suc a) (suc b) h = le_z_yes (le→leb b a (omega arith))

-- a number below 0 or 0 is not above one from 0 on
pub across_zero : (a b : ℕ) → signed_of true a ≤ℤ signed_of false b
across_zero zero b = le_z_yes (le→leb 0 b zero-le)
across_zero (suc a) b = le_z_yes tt

-- a multiple keeps the sign
pub signed_times : (negative : Bool) (m d : ℕ) → signed_of negative m *ℤ pos d ≡ signed_of negative (m * d)
signed_times false m d = refl
signed_times true zero d = rw zero-mul
signed_times true (suc m) d = sym (signed_opposite false (suc m * d))
