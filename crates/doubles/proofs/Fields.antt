-- A double by its 64 bits: with the field 2,047 it is no number, else it is its mantissa times 2^(field - 1) over 2^1074. Assumes nothing.
use mathlib.Core.Path.{◌≡◌, refl}
use mathlib.Core.Bool.{Bool, true, false, cond}
use Prim.Native.Nat.{ℕ, zero, suc, ◌+◌, ◌-◌, ◌*◌, ◌%◌, ◌^◌, ◌<◌, ◌≤◌}
use native.Mathlib.Nat.{mod-lt, div-lt_iff_lt-mul}
use native.Mathlib.Omega.{arith}
use borrow.Author.Tests.{ne_eqb}
use lib.Dec.{eqb}
use lib.IntN.{pos}
use lib.Ieee.{nan, inf, binary64, of_bits, of_fields}
use lib.Ieee.Exact.{HasValue, odd_sign}
use Rattle.rounding.specs.declared.Rule.{Rule}
use Rattle.doubles.specs.Doubles.{no_number, coefficient_of}
use Rattle.doubles.specs.Parts.{sign_of, field_of, digits_of, mantissa_of}

pub by_fields : (bits : ℕ) → of_bits binary64 bits ≡ of_fields binary64 (sign_of bits) (field_of bits) (digits_of bits)
unfolding of_bits
by_fields bits = refl

pub last_field : (bits : ℕ) → field_of bits ≤ 2047
last_field bits =
    let low : bits % 2 ^ 63 < 2048 * 2 ^ 52 = mod-lt bits (omega arith) in
    let least : field_of bits < 2048 = (div-lt_iff_lt-mul {k = 2 ^ 52} {x = bits % 2 ^ 63} {y = 2048} (omega arith)).1 low in omega arith

-- no number
at_last : (sign : Bool) (field digits : ℕ) → field ≡ 2047
    → (no_number (of_fields binary64 sign field digits) ≡ true) × ((rule : Rule) (scale : ℕ) → coefficient_of rule scale (of_fields binary64 sign field digits) ≡ pos 0)
unfolding of_fields coefficient_of
at_last sign field digits e = rw e (go (eqb digits 0))
  where
    go : (b : Bool) → (no_number (cond b (inf sign) nan) ≡ true) × ((rule : Rule) (scale : ℕ) → coefficient_of rule scale (cond b (inf sign) nan) ≡ pos 0)
    go true = (refl, λ rule scale. refl)
    go false = (refl, λ rule scale. refl)

-- a number
has_worth : (sign : Bool) (field digits : ℕ) → field < 2047
    → HasValue (of_fields binary64 sign field digits) sign (mantissa_of field digits * 2 ^ (field - 1)) (2 ^ 1074)
unfolding of_fields
has_worth sign zero digits less = odd_sign 53 sign digits 0 1074
has_worth sign (suc x) digits less =
    let one_less : suc x - 1 ≡ x = omega arith in
    rw (ne_eqb (suc x) 2047 (λ e. omega arith), ne_eqb (suc x) 0 (λ e. omega arith), one_less) (odd_sign 53 sign (2 ^ 52 + digits) x 1074)

module _ (bits : ℕ) where
  pub bits_no_number : field_of bits ≡ 2047 → (no_number (of_bits binary64 bits) ≡ true) × ((rule : Rule) (scale : ℕ) → coefficient_of rule scale (of_bits binary64 bits) ≡ pos 0)
  bits_no_number e = rw (by_fields bits) (at_last (sign_of bits) (field_of bits) (digits_of bits) e)

  pub bits_worth : field_of bits < 2047
      → HasValue (of_bits binary64 bits) (sign_of bits) (mantissa_of (field_of bits) (digits_of bits) * 2 ^ (field_of bits - 1)) (2 ^ 1074)
  bits_worth less = rw (by_fields bits) (has_worth (sign_of bits) (field_of bits) (digits_of bits) less)
