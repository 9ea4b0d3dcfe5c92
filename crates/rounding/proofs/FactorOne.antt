-- A plain quotient by the factor 1 is document 01's plain quotient n / d, with its rows 1, 3 and 6 and no row 13: the factor 1 is within its
-- limit and changes no numerator, and the rounded quotient is never farther from 0 than the numerator. Assumes nothing.
use mathlib.Core.Path.{◌≡◌, refl}
use mathlib.Core.Bool.{Bool, true, false}
use mathlib.Core.List.{List, [], ◌∷◌}
use Prim.Native.Nat.{ℕ, ◌≤◌}
use native.Mathlib.Omega.{arith}
use borrow.Author.Tests.{le-ltb, ltb-false}
use lib.Dec.{ltb}
use lib.IntN.{ℤ, pos}
use Rattle.refusal.specs.declared.Refusal.TheVariants.{Mode, Magnitude, Rate, Limit}
use Rattle.refusal.specs.Rows.{Said, gives, Row, row, first_row}
use Rattle.whole.specs.Whole.{negative, magnitude_of}
use Rattle.whole.proofs.Laws.{magnitude_signed}
use Rattle.rounding.specs.declared.Rule.{Rule}
use Rattle.rounding.specs.Modes.{bad_mode, rule_of}
use Rattle.rounding.specs.Leaf.{rounded, rounded_magnitude}
use Rattle.rounding.specs.Plain.{limit, plain_rows, quotient_of, plain_said}
use Rattle.rounding.proofs.Bounds.{at_most}
use Rattle.rounding.proofs.Factors.{factor_one}

-- document 01: "a plain quotient's numerator has one over 10^18", "a plain quotient's divisor isn't 1 to 10^18"
abbrev pub base_rows : ℕ → ℤ → ℕ → List Row
base_rows mode n d = row Mode (bad_mode mode) ∷ row Magnitude (ltb limit (magnitude_of n)) ∷ row Rate (ltb d 1) ∷ row Rate (ltb limit d) ∷ []

never_farther : (rule : Rule) (n : ℤ) (d : ℕ) → magnitude_of (rounded rule n d) ≤ magnitude_of n
unfolding rounded
never_farther rule n d =
    let m = rounded_magnitude rule (negative n) (magnitude_of n) d in
    omega (arith, magnitude_signed (negative n) m, at_most rule (negative n) (magnitude_of n) d)

-- a row that can't hold behind a row that would hold with it, and one that never holds
two_fewer : (x y z w p f : Bool) (value : Said ℤ) → f ≡ false → (y ≡ false → p ≡ false)
    → first_row (row Mode x ∷ row Magnitude y ∷ row Magnitude f ∷ row Rate z ∷ row Rate w ∷ row Limit p ∷ []) value
    ≡ first_row (row Mode x ∷ row Magnitude y ∷ row Rate z ∷ row Rate w ∷ []) value
two_fewer true y z w p f value e h = refl
two_fewer false true z w p f value e h = refl
two_fewer false false true w p f value e h = rw e
two_fewer false false false true p f value e h = rw e
two_fewer false false false false p f value e h = rw (e, h refl)

pub by_one : (mode : ℕ) (n : ℤ) (d : ℕ) → plain_said mode n (pos 1) d ≡ first_row (base_rows mode n d) (gives (rounded (rule_of mode) n d))
unfolding plain_said plain_rows quotient_of
by_one mode n d =
    let q = rounded (rule_of mode) n d in
    rw (factor_one n)
    (two_fewer (bad_mode mode) (ltb limit (magnitude_of n)) (ltb d 1) (ltb limit d) (ltb limit (magnitude_of q)) (ltb limit 1) (gives q) (le-ltb limit 1 (omega arith))
    (λ small. le-ltb limit (magnitude_of q) (omega (arith, never_farther (rule_of mode) n d, ltb-false limit (magnitude_of n) small))))
