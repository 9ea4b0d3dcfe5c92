-- A signed number as a sign and a magnitude: every definition over whole numbers goes by these. Cited by the functions of
-- `whole` and by every promise on a signed number. Assumes nothing.
use Rattle.std.specs.Prelude.{Bool, true, false, cond, ℕ, zero, suc, ◌-◌, ◌^◌, ltb, ℤ, pos, negsuc}

-- below 0
abbrev pub negative : ℤ → Bool
negative (pos n) = false
negative (negsuc n) = true

-- the distance from 0 (`negsuc n` is -(n + 1))
abbrev pub magnitude_of : ℤ → ℕ
magnitude_of (pos n) = n
magnitude_of (negsuc n) = suc n

-- the number with this sign and magnitude; 0 has no sign
abbrev pub signed_of : Bool → ℕ → ℤ
signed_of false m = pos m
signed_of true zero = pos zero
signed_of true (suc m) = negsuc m

-- the largest magnitude that an i64 has below 0, and from 0 on
abbrev pub reach : Bool → ℕ
reach true = 2 ^ 63
reach false = 2 ^ 63 - 1

-- as an i64 holds it: 0 where it can't
abbrev pub held_signed : Bool → ℕ → ℤ
held_signed sign m = cond (ltb (reach sign) m) (pos 0) (signed_of sign m)
