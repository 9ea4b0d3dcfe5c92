-- Document 01's table of the seven modes, all 70 entries: the definition computes each of them. A column's number is a numerator over 10.
-- Assumes nothing.
use mathlib.Core.Path.{◌≡◌, refl}
use mathlib.Core.Bool.{true, false}
use mathlib.Core.List.{List, [], ◌∷◌, map}
use Prim.Native.Nat.{ℕ}
use lib.IntN.{ℤ}
use Rattle.whole.specs.Whole.{signed_of}
use Rattle.rounding.specs.declared.Rule.{Rule}
use Rattle.rounding.specs.declared.Rule.TheVariants.{Up, Down, Ceiling, Floor, HalfUp, HalfDown, HalfEven}
use Rattle.rounding.specs.Modes.{rules}
use Rattle.rounding.specs.Leaf.{rest_of, is_odd, rounded, rounded_magnitude}

infix 90 +◌ -◌
abbrev pub +◌ : ℕ → ℤ
+ n = signed_of false n

abbrev pub -◌ : ℕ → ℤ
- n = signed_of true n

-- 5.5, 2.5, 1.6, 1.1, 1.0, -1.0, -1.1, -1.6, -2.5, -5.5
abbrev pub columns : List ℤ
columns = + 55 ∷ + 25 ∷ + 16 ∷ + 11 ∷ + 10 ∷ - 10 ∷ - 11 ∷ - 16 ∷ - 25 ∷ - 55 ∷ []

-- a line for each mode, in the order of the mode numbers
abbrev pub table : List (Rule × List ℤ)
table =
    (Up, + 6 ∷ + 3 ∷ + 2 ∷ + 2 ∷ + 1 ∷ - 1 ∷ - 2 ∷ - 2 ∷ - 3 ∷ - 6 ∷ [])
    ∷ (Down, + 5 ∷ + 2 ∷ + 1 ∷ + 1 ∷ + 1 ∷ - 1 ∷ - 1 ∷ - 1 ∷ - 2 ∷ - 5 ∷ [])
    ∷ (Ceiling, + 6 ∷ + 3 ∷ + 2 ∷ + 2 ∷ + 1 ∷ - 1 ∷ - 1 ∷ - 1 ∷ - 2 ∷ - 5 ∷ [])
    ∷ (Floor, + 5 ∷ + 2 ∷ + 1 ∷ + 1 ∷ + 1 ∷ - 1 ∷ - 2 ∷ - 2 ∷ - 3 ∷ - 6 ∷ [])
    ∷ (HalfUp, + 6 ∷ + 3 ∷ + 2 ∷ + 1 ∷ + 1 ∷ - 1 ∷ - 1 ∷ - 2 ∷ - 3 ∷ - 6 ∷ [])
    ∷ (HalfDown, + 5 ∷ + 2 ∷ + 2 ∷ + 1 ∷ + 1 ∷ - 1 ∷ - 1 ∷ - 2 ∷ - 2 ∷ - 5 ∷ [])
    ∷ (HalfEven, + 6 ∷ + 2 ∷ + 2 ∷ + 1 ∷ + 1 ∷ - 1 ∷ - 1 ∷ - 2 ∷ - 2 ∷ - 6 ∷ [])
    ∷ []

pub mode_table : map (λ (rule : Rule). (rule, map (λ (n : ℤ). rounded rule n 10) columns)) rules ≡ table
unfolding rest_of is_odd rounded rounded_magnitude
mode_table = refl
