-- The rounded magnitude is the quotient or one more, and never over the numerator: it rises only where there is a rest.
-- Assumes nothing.
use mathlib.Core.Path.{◌≡◌, refl, sym, ◌∙◌, ap}
use mathlib.Core.Bool.{Bool, true, false}
use Prim.Native.Nat.{ℕ, zero, suc, ◌+◌, ◌/◌, ◌%◌, ◌<◌, ◌≤◌}
use native.Mathlib.Decide.{ℕ_discrete}
use native.Mathlib.Nat.{div-add-mod', le-mul_of_pos_right, div-le_self, add-zero}
use native.Mathlib.Omega.{arith}
use borrow.Author.Tests.{eq-eqb, ne_eqb}
use mir.Val.{bool_byte}
use Rattle.rounding.specs.declared.Rule.{Rule}
use Rattle.rounding.specs.declared.Rule.TheVariants.{Up, Down, Ceiling, Floor, HalfUp, HalfDown, HalfEven}
use Rattle.rounding.specs.declared.Rest.TheVariants.{Exact}
use Rattle.rounding.specs.Modes.{rises_by}
use Rattle.rounding.specs.Leaf.{rest_of, is_odd, raised, rounded_magnitude}

-- one more where the rule says so, as a program adds it
pub raised_is : (b : Bool) (q : ℕ) → q + bool_byte b ≡ raised b q
raised_is true q = refl
raised_is false q = add-zero q

-- no rule raises an exact quotient
pub exact_stays : (rule : Rule) (negative odd : Bool) → rises_by rule negative odd Exact ≡ false
exact_stays Up negative odd = refl
exact_stays Down negative odd = refl
exact_stays Ceiling true odd = refl
exact_stays Ceiling false odd = refl
exact_stays Floor true odd = refl
exact_stays Floor false odd = refl
exact_stays HalfUp negative odd = refl
exact_stays HalfDown negative odd = refl
exact_stays HalfEven negative true = refl
exact_stays HalfEven negative false = refl

pub exact_class : (d : ℕ) → rest_of 0 d ≡ Exact
unfolding rest_of
exact_class d = refl

pub at_divisor : (rule : Rule) (negative : Bool) (n d : ℕ) → 0 < d
    → rounded_magnitude rule negative n d ≡ raised (rises_by rule negative (is_odd (n / d)) (rest_of (n % d) d)) (n / d)
unfolding rounded_magnitude
at_divisor rule negative n d h = rw (ne_eqb d 0 (omega arith))

-- where the quotient rises there is a rest
pub rise_has_rest : (rule : Rule) (negative odd : Bool) (r d : ℕ) → rises_by rule negative odd (rest_of r d) ≡ true → 0 < r
rise_has_rest rule negative odd zero d e =
    let never : true ≡ false = sym e ∙ ap (rises_by rule negative odd) (exact_class d) ∙ exact_stays rule negative odd in
    let z : ◌≡◌ {A = ℕ} 0 1 = cc in absurd (omega arith)
rise_has_rest rule negative odd (suc r) d e = omega arith

-- and so the quotient is below the numerator
pub below_numerator : (n d : ℕ) → 0 < d → 0 < n % d → n / d < n
below_numerator n d h some = omega (arith, div-add-mod' n d, le-mul_of_pos_right (n / d) h)

pub at_most : (rule : Rule) (negative : Bool) (n d : ℕ) → rounded_magnitude rule negative n d ≤ n
unfolding rounded_magnitude
at_most rule negative n d = go (ℕ_discrete d 0)
  where
    step : (0 < d) → (b : Bool) → rises_by rule negative (is_odd (n / d)) (rest_of (n % d) d) ≡ b → raised b (n / d) ≤ n
    step h true e = let less : n / d < n = below_numerator n d h (rise_has_rest rule negative (is_odd (n / d)) (n % d) d e) in omega arith
    step h false e = div-le_self n d

    go : Dec (d ≡ 0) → rounded_magnitude rule negative n d ≤ n
    go (yes e) = rw (eq-eqb d 0 e) (omega arith)
    go (no f) =
        rw (ne_eqb d 0 f) (step (omega arith) (rises_by rule negative (is_odd (n / d)) (rest_of (n % d) d)) refl)
