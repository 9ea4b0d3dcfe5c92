-- A double's coefficient depends on its worth alone: equal fractions round alike, so any fraction that is the double's worth may stand for it. Assumes nothing.
use mathlib.Core.Path.{◌≡◌, refl, sym, ◌∙◌, ap, ap₂}
use mathlib.Core.Bool.{Bool, true, false}
use Prim.Native.Nat.{ℕ, zero, suc, ◌*◌, ◌^◌, ◌<◌}
use native.Mathlib.Nat.{mul_comm, mul_right_comm}
use lib.Ieee.{Float, nan, inf, fin, up, down}
use lib.Ieee.Fits.{down_pos}
use lib.Ieee.Exact.{HasValue}
use Rattle.whole.specs.Whole.{signed_of}
use Rattle.rounding.specs.declared.Rule.{Rule}
use Rattle.rounding.specs.Leaf.{rounded, rounded_magnitude}
use Rattle.rounding.proofs.Fractions.{fractions_magnitude}
use Rattle.rounding.proofs.Value.{zero_rounds}
use Rattle.doubles.specs.Doubles.{no_number, coefficient_of}

pub same_fraction : (rule : Rule) (sign : Bool) (a b c d : ℕ) → 0 < b → 0 < d → a * d ≡ c * b
    → rounded_magnitude rule sign a b ≡ rounded_magnitude rule sign c d
same_fraction rule sign a b c d some other same =
    sym (fractions_magnitude d other rule sign a b) ∙ ap₂ (rounded_magnitude rule sign) same (mul_comm b d) ∙ fractions_magnitude b some rule sign c d

-- a signed number rounds by its sign and its magnitude; 0 has no sign
pub signed_rounds : (rule : Rule) (sign : Bool) (n d : ℕ) → rounded rule (signed_of sign n) d ≡ signed_of sign (rounded_magnitude rule sign n d)
unfolding rounded
signed_rounds rule false n d = refl
signed_rounds rule true zero d = rw (zero_rounds rule false d, zero_rounds rule true d) refl
signed_rounds rule true (suc n) d = refl

-- THE LAW: a double of the sign and the size a / c has the coefficient that a / c rounds to
pub by_worth : (rule : Rule) (scale : ℕ) (x : Float) (sign : Bool) (a c : ℕ) → 0 < c → HasValue x sign a c
    → coefficient_of rule scale x ≡ signed_of sign (rounded_magnitude rule sign (a * 10 ^ scale) c)
unfolding coefficient_of
by_worth rule scale nan sign a c some v = absurd v
by_worth rule scale (inf t) sign a c some v = absurd v
by_worth rule scale (fin t m e) sign a c some v =
    let p = 10 ^ scale in
    let same : m * up e * p * c ≡ a * p * down e = mul_right_comm (m * up e) p c ∙ ap (λ (x : ℕ). x * p) v.1 ∙ mul_right_comm a (down e) p in
    signed_rounds rule t (m * up e * p) (down e)
    ∙ ap (λ (b : Bool). signed_of b (rounded_magnitude rule b (m * up e * p) (down e))) v.0
    ∙ ap (signed_of sign) (same_fraction rule sign (m * up e * p) (down e) (a * p) c (down_pos e) some same)

pub worth_is_number : (x : Float) (sign : Bool) (a c : ℕ) → HasValue x sign a c → no_number x ≡ false
worth_is_number nan sign a c v = absurd v
worth_is_number (inf t) sign a c v = absurd v
worth_is_number (fin t m e) sign a c v = refl
