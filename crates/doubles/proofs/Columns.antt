-- A column by its 64 bits: with a field below 1,075 it is its mantissa over a power of two, and with a greater one over L. A numerator below half its
-- divisor rounds by the rule alone. Assumes nothing.
use mathlib.Core.Path.{◌≡◌, refl, sym, ◌∙◌, ap}
use mathlib.Core.Bool.{Bool, true, false, cond}
use Prim.Native.Nat.{ℕ, ◌+◌, ◌-◌, ◌*◌, ◌/◌, ◌^◌, ◌<◌, ◌≤◌}
use native.Mathlib.Decide.{ℕ_discrete, dec_lt}
use native.Mathlib.Nat.{mod-lt, mod-eq_of_lt, div-eq_of_lt, mul_assoc, mul_right_comm, mul-le-mul, le-mul_of_pos_right, le-div_iff_mul-le, pow-le-pow_right, le_trans}
use native.Mathlib.Omega.{arith}
use borrow.Author.Tests.{eq-eqb, ne_eqb, lt-ltb, le-ltb}
use lib.Dec.{eqb}
use lib.Pow.{pow-add, pow_pos}
use lib.Ieee.{Float, binary64, of_bits}
use Rattle.whole.specs.Whole.{magnitude_of, signed_of}
use Rattle.whole.proofs.Laws.{magnitude_signed, signed_zero_lem}
use Rattle.rounding.specs.declared.Rule.{Rule}
use Rattle.rounding.specs.declared.Rest.TheVariants.{Below}
use Rattle.rounding.specs.Leaf.{is_odd, rounded_magnitude}
use Rattle.rounding.proofs.Bounds.{at_divisor}
use Rattle.rounding.proofs.Threshold.{class_is, by_threshold}
use Rattle.rounding.proofs.Value.{zero_rounds}
use Rattle.amount.specs.Amounts.{largest, over_l}
use Rattle.doubles.specs.Doubles.{no_number, coefficient_of}
use Rattle.doubles.specs.Parts.{sign_of, field_of, digits_of, mantissa_of, tiny_of, capped, magnitude_at}
use Rattle.doubles.proofs.Worth.{same_fraction, by_worth, worth_is_number}
use Rattle.doubles.proofs.Fields.{last_field, bits_no_number, bits_worth}

-- every L up to 10^15 will do
pub few : largest ≤ 10 ^ 15
few = omega arith

module _ (rule : Rule) (sign : Bool) where
  -- q 2^k p / 2^l for a k up to l
  over_places : (q p k l : ℕ) → k ≤ l → rounded_magnitude rule sign (q * 2 ^ k * p) (2 ^ l) ≡ rounded_magnitude rule sign (q * p) (2 ^ (l - k))
  over_places q p k l h =
      let all : 2 ^ k * 2 ^ (l - k) ≡ 2 ^ l = sym (pow-add 2 k (l - k)) ∙ ap (λ (x : ℕ). 2 ^ x) (omega arith) in
      same_fraction rule sign (q * 2 ^ k * p) (2 ^ l) (q * p) (2 ^ (l - k)) (pow_pos l) (pow_pos (l - k))
      (ap (λ (x : ℕ). x * 2 ^ (l - k)) (mul_right_comm q (2 ^ k) p) ∙ mul_assoc (q * p) (2 ^ k) (2 ^ (l - k)) ∙ ap (λ (x : ℕ). q * p * x) all)

  -- and for a k from l on, with a mantissa of 2^52 or more
  over_l_lem : (q p k l : ℕ) → l ≤ k → 2 ^ 52 ≤ q → 0 < p → largest < rounded_magnitude rule sign (q * 2 ^ k * p) (2 ^ l)
  over_l_lem q p k l h lead some =
      let n = q * 2 ^ k * p in
      let product : 2 ^ 52 * 2 ^ l ≤ q * 2 ^ k = mul-le-mul lead (pow-le-pow_right (omega arith) h) in
      let quotient : 2 ^ 52 ≤ n / 2 ^ l = (le-div_iff_mul-le (pow_pos l)).1 (le_trans product (le-mul_of_pos_right (q * 2 ^ k) some)) in
      by_threshold rule sign n (2 ^ l) (pow_pos l) (λ (x : ℕ). largest < x) (λ up. omega (arith, quotient)) (λ down. omega (arith, quotient))

  pub tiny_is : (n d : ℕ) → n + n < d → tiny_of rule sign n ≡ rounded_magnitude rule sign n d
  unfolding is_odd
  tiny_is n d h = go (ℕ_discrete n 0)
    where
      go : Dec (n ≡ 0) → tiny_of rule sign n ≡ rounded_magnitude rule sign n d
      go (yes e) = rw (eq-eqb n 0 e, e) (sym (zero_rounds rule sign d))
      go (no f) =
          let below : n < d = omega arith in
          rw (ne_eqb n 0 f)
          (sym
          (at_divisor rule sign n d (omega arith)
          ∙ rw (div-eq_of_lt below, mod-eq_of_lt below, class_is Below n d (omega arith, h)) refl))

-- and what is below 2^63 over a power that a word doesn't hold
pub below_half : (rule : Rule) (sign : Bool) (n k : ℕ) → n < 2 ^ 63 → 64 ≤ k → rounded_magnitude rule sign n (2 ^ k) ≡ tiny_of rule sign n
below_half rule sign n k h l =
    let more : 2 ^ 64 ≤ 2 ^ k = pow-le-pow_right {n = 2} (omega arith) {i = 64} {j = k} l in sym (tiny_is rule sign n (2 ^ k) (omega (arith, more)))

-- the cap
pub capped_over : (m : ℕ) → largest < m → capped m ≡ largest + 1
unfolding capped
capped_over m h = rw (lt-ltb largest m h)

pub capped_within : (m : ℕ) → m ≤ largest → capped m ≡ m
unfolding capped
capped_within m h = rw (le-ltb largest m h)

pub same_row : (m : ℕ) → over_l (capped m) ≡ over_l m
same_row m = go (dec_lt largest m)
  where
    go : Dec (largest < m) → over_l (capped m) ≡ over_l m
    go (yes h) = rw (capped_over m h, lt-ltb largest m h) (lt-ltb largest (largest + 1) (omega arith))
    go (no h) = rw (capped_within m (omega arith))

-- no number by its field
pub bits_number : (bits : ℕ) → eqb (field_of bits) 2047 ≡ no_number (of_bits binary64 bits)
bits_number bits = go (ℕ_discrete (field_of bits) 2047)
  where
    go : Dec (field_of bits ≡ 2047) → eqb (field_of bits) 2047 ≡ no_number (of_bits binary64 bits)
    go (yes e) = eq-eqb (field_of bits) 2047 e ∙ sym (bits_no_number bits e).0
    go (no f) =
        ne_eqb (field_of bits) 2047 f
        ∙ sym
        (worth_is_number (of_bits binary64 bits) (sign_of bits) (mantissa_of (field_of bits) (digits_of bits) * 2 ^ (field_of bits - 1)) (2 ^ 1074)
        (bits_worth bits (omega (arith, last_field bits))))

-- the column, by its bits
module _ (rule : Rule) (scale bits : ℕ) where
  abbrev x : Float
  x = of_bits binary64 bits

  abbrev mantissa : ℕ
  mantissa = mantissa_of (field_of bits) (digits_of bits)

  abbrev scaled : ℕ
  scaled = mantissa * 2 ^ (field_of bits - 1) * 10 ^ scale

  tens : 0 < 10 ^ scale
  tens = pow-le-pow_right {n = 10} (omega arith) {i = 0} {j = scale} (omega arith)

  bits_coefficient : field_of bits < 2047 → coefficient_of rule scale x ≡ signed_of (sign_of bits) (rounded_magnitude rule (sign_of bits) scaled (2 ^ 1074))
  bits_coefficient less = by_worth rule scale x (sign_of bits) (mantissa * 2 ^ (field_of bits - 1)) (2 ^ 1074) (pow_pos 1074) (bits_worth bits less)

  pub signed_by_bits : coefficient_of rule scale x ≡ signed_of (sign_of bits) (magnitude_at rule scale x)
  signed_by_bits = go (ℕ_discrete (field_of bits) 2047)
    where
      go : Dec (field_of bits ≡ 2047) → coefficient_of rule scale x ≡ signed_of (sign_of bits) (magnitude_at rule scale x)
      go (yes e) = rw ((bits_no_number bits e).1 rule scale) (sym (signed_zero_lem (sign_of bits)))
      go (no f) =
          let is = bits_coefficient (omega (arith, last_field bits)) in
          rw is (ap (signed_of (sign_of bits)) (sym (magnitude_signed (sign_of bits) (rounded_magnitude rule (sign_of bits) scaled (2 ^ 1074)))))

  by_bits : field_of bits < 2047 → magnitude_at rule scale x ≡ rounded_magnitude rule (sign_of bits) scaled (2 ^ 1074)
  by_bits less = ap magnitude_of (bits_coefficient less) ∙ magnitude_signed (sign_of bits) (rounded_magnitude rule (sign_of bits) scaled (2 ^ 1074))

  pub column_none : field_of bits ≡ 2047 → capped (magnitude_at rule scale x) ≡ 0
  column_none e = rw ((bits_no_number bits e).1 rule scale) (capped_within 0 (omega arith))

  pub column_over : field_of bits < 2047 → 1075 ≤ field_of bits → capped (magnitude_at rule scale x) ≡ largest + 1
  column_over less large =
      let field = field_of bits in
      let lead : 2 ^ 52 ≤ mantissa = rw (ne_eqb field 0 (λ e. omega arith)) (omega arith) in
      capped_over (magnitude_at rule scale x)
      (rw (by_bits less) (over_l_lem rule (sign_of bits) mantissa (10 ^ scale) (field - 1) 1074 (omega arith) lead tens))

  pub column_places : field_of bits < 1075
      → magnitude_at rule scale x ≡ rounded_magnitude rule (sign_of bits) (mantissa * 10 ^ scale) (2 ^ (1074 - (field_of bits - 1)))
  column_places small =
      by_bits (omega arith) ∙ over_places rule (sign_of bits) mantissa (10 ^ scale) (field_of bits - 1) 1074 (omega arith)

-- the leaf's answer by equal parts
pub same_leaf : (rule : Rule) {s t : Bool} {q r p o k l : ℕ} → s ≡ t → q ≡ r → p ≡ o → k ≡ l
    → rounded_magnitude rule s (q * p) (2 ^ k) ≡ rounded_magnitude rule t (r * o) (2 ^ l)
same_leaf rule a b c d = cc

-- what is scaled fits: a mantissa has 53 digits, and 10^3 is below 2^10
pub mantissa_fits : (field bits : ℕ) → mantissa_of field (digits_of bits) < 2 ^ 53
mantissa_fits field bits = go (eqb field 0)
  where
    low : digits_of bits < 2 ^ 52
    low = mod-lt bits (omega arith)

    go : (b : Bool) → cond b (digits_of bits) (2 ^ 52 + digits_of bits) < 2 ^ 53
    go true = omega (arith, low)
    go false = omega (arith, low)

pub scaled_fits : (q p : ℕ) → q < 2 ^ 53 → p ≤ 1000 → q * p < 2 ^ 63
scaled_fits q p h few = omega (arith, mul-le-mul {n₁ = q} {m₁ = p} {n₂ = 2 ^ 53} {m₂ = 1000} (omega arith) few)

pub ten_fits : (scale : ℕ) → scale ≤ 3 → 10 ^ scale ≤ 1000
ten_fits scale h = pow-le-pow_right {n = 10} (omega arith) {i = scale} {j = 3} h
