-- How many of the three tests hold names the class: none where nothing is left, one below the half, two at it, three above it.
-- Assumes nothing.
use mathlib.Core.Path.{◌≡◌, refl, sym, ◌∙◌, ap}
use mathlib.Core.Bool.{Bool, true, false}
use mathlib.Core.List.{[], ◌∷◌}
use Prim.Native.Nat.{ℕ, ◌+◌, ◌-◌, ◌<◌, ◌≤◌}
use native.Mathlib.Omega.{arith}
use borrow.Author.Tests.{lt-ltb, le-ltb, eq-eqb, ne_eqb, ltb-true, ltb-false, leb-true, leb-false}
use lib.Dec.{ltb, leb}
use lib.ListN.{get_or, get_or-eq_default}
use mir.Val.{bool_byte}
use Rattle.whole.proofs.Keys.{past_keys}
use Rattle.rounding.specs.declared.Rest.{Rest}
use Rattle.rounding.specs.declared.Rest.TheVariants.{Exact, Below, Half, Above}
use Rattle.rounding.specs.Leaf.{rest_of}
use Rattle.rounding.proofs.leaf.class.Goals as goal

abbrev named : ℕ → Rest
named tests = get_or (Exact ∷ Below ∷ Half ∷ []) tests Above

by_tests : (r d : ℕ) → r < d → (some from past : Bool) → ltb 0 r ≡ some → leb (d - r) r ≡ from → ltb (d - r) r ≡ past
    → named (bool_byte some + bool_byte from + bool_byte past) ≡ rest_of r d
unfolding rest_of
by_tests r d h false false false a b c = simp (eq-eqb r 0 (omega (arith, ltb-false 0 r a)))
by_tests r d h true false false a b c =
    simp (ne_eqb r 0 (omega (arith, ltb-true 0 r a)), lt-ltb (r + r) d (omega (arith, leb-false (d - r) r b)))
by_tests r d h true true false a b c =
    simp (
      ne_eqb r 0 (omega (arith, ltb-true 0 r a)),
      le-ltb (r + r) d (omega (arith, leb-true (d - r) r b)),
      eq-eqb (r + r) d (omega (arith, leb-true (d - r) r b, ltb-false (d - r) r c)),
    )
by_tests r d h true true true a b c =
    simp (
      ne_eqb r 0 (omega (arith, ltb-true 0 r a)),
      le-ltb (r + r) d (omega (arith, leb-true (d - r) r b)),
      ne_eqb (r + r) d (omega (arith, ltb-true (d - r) r c)),
    )
by_tests r d h true false true a b c = absurd (omega (arith, leb-false (d - r) r b, ltb-true (d - r) r c))
by_tests r d h false true false a b c = absurd (omega (arith, ltb-false 0 r a, leb-true (d - r) r b))
by_tests r d h false true true a b c = absurd (omega (arith, ltb-false 0 r a, leb-true (d - r) r b))
by_tests r d h false false true a b c = absurd (omega (arith, leb-false (d - r) r b, ltb-true (d - r) r c))

by_number : (r d : ℕ) → r < d → named (bool_byte (ltb 0 r) + bool_byte (leb (d - r) r) + bool_byte (ltb (d - r) r)) ≡ rest_of r d
by_number r d h = by_tests r d h (ltb 0 r) (leb (d - r) r) (ltb (d - r) r) refl refl refl

few : (b : Bool) → bool_byte b ≤ 1
few true = omega arith
few false = omega arith

pub returns-in-0 : goal.returns-in-0
returns-in-0 c = sym (ap named c.in-0.is) ∙ by_number c.args.rest c.args.d c.requires

pub returns-in-1 : goal.returns-in-1
returns-in-1 c = sym (ap named c.in-1.is) ∙ by_number c.args.rest c.args.d c.requires

pub returns-in-2 : goal.returns-in-2
returns-in-2 c = sym (ap named c.in-2.is) ∙ by_number c.args.rest c.args.d c.requires

pub returns-in_default : goal.returns-in_default
returns-in_default c = sym (get_or-eq_default (Exact ∷ Below ∷ Half ∷ []) Above (past_keys 3 _ c.in_default.in_default-own.rest))
    ∙ by_number c.args.rest c.args.d c.requires
