-- The opposite number rounds to the opposite answer, where CEILING and FLOOR change places and the other rules stay: only these two look at
-- the sign. Assumes nothing.
use mathlib.Core.Path.{◌≡◌, refl, ◌∙◌, ap}
use mathlib.Core.Bool.{Bool, true, false, not}
use Prim.Native.Nat.{ℕ, zero, suc, ◌/◌, ◌%◌}
use lib.IntN.{ℤ, pos, negsuc, neg_ℤ}
use Rattle.whole.specs.Whole.{signed_of}
use Rattle.whole.proofs.Laws.{signed_opposite}
use Rattle.rounding.specs.declared.Rule.{Rule}
use Rattle.rounding.specs.declared.Rule.TheVariants.{Up, Down, Ceiling, Floor, HalfUp, HalfDown, HalfEven}
use Rattle.rounding.specs.declared.Rest.{Rest}
use Rattle.rounding.specs.Modes.{rises_by}
use Rattle.rounding.specs.Leaf.{rest_of, is_odd, rounded, rounded_magnitude}
use Rattle.rounding.proofs.Value.{zero_rounds}

-- the rule that a rule becomes when 0 is a mirror
abbrev pub mirror : Rule → Rule
mirror Up = Up
mirror Down = Down
mirror Ceiling = Floor
mirror Floor = Ceiling
mirror HalfUp = HalfUp
mirror HalfDown = HalfDown
mirror HalfEven = HalfEven

mirror_rises : (rule : Rule) (negative odd : Bool) (x : Rest) → rises_by (mirror rule) (not negative) odd x ≡ rises_by rule negative odd x
mirror_rises Up negative odd x = refl
mirror_rises Down negative odd x = refl
mirror_rises Ceiling negative odd x = refl
mirror_rises Floor true odd x = refl
mirror_rises Floor false odd x = refl
mirror_rises HalfUp negative odd x = refl
mirror_rises HalfDown negative odd x = refl
mirror_rises HalfEven negative odd x = refl

pub opposite_magnitude : (rule : Rule) (negative : Bool) (n d : ℕ) → rounded_magnitude (mirror rule) (not negative) n d ≡ rounded_magnitude rule negative n d
unfolding rounded_magnitude
opposite_magnitude rule negative n d = rw (mirror_rises rule negative (is_odd (n / d)) (rest_of (n % d) d))

-- the same with the sign put on
opposite_signed : (rule : Rule) (negative : Bool) (n d : ℕ)
    → signed_of (not negative) (rounded_magnitude (mirror rule) (not negative) n d) ≡ neg_ℤ (signed_of negative (rounded_magnitude rule negative n d))
opposite_signed rule negative n d =
    ap (signed_of (not negative)) (opposite_magnitude rule negative n d) ∙ signed_opposite negative (rounded_magnitude rule negative n d)

pub opposite : (rule : Rule) (n : ℤ) (d : ℕ) → rounded (mirror rule) (neg_ℤ n) d ≡ neg_ℤ (rounded rule n d)
unfolding rounded
opposite rule (pos zero) d = rw (zero_rounds (mirror rule) false d, zero_rounds rule false d)
opposite rule (pos (suc n)) d = opposite_signed rule false (suc n) d
opposite rule (negsuc n) d = opposite_signed rule true (suc n) d
