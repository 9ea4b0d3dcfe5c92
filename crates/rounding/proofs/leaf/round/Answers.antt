-- The quotient, and one more where the rule says so, which fits since there is a rest then; the rest is what the quotient's multiple of d
-- leaves of n. Assumes nothing.
use mathlib.Core.Path.{◌≡◌, refl, sym, ◌∙◌, ap}
use mathlib.Core.Bool.{Bool, true, false}
use Prim.Native.Nat.{ℕ, ◌+◌, ◌-◌, ◌*◌, ◌<◌, ◌/◌, ◌%◌, ◌^◌}
use native.Mathlib.Nat.{div-le_self, div-add-mod'}
use native.Mathlib.Omega.{arith}
use borrow.Author.Tests.{eq-eqb}
use mir.Syntax.{w64}
use mir.Val.{Fits, bool_byte}
use Rattle.rounding.specs.Modes.{rises_by}
use Rattle.rounding.specs.Leaf.{rest_of, is_odd, raised, rounded_magnitude}
use Rattle.rounding.proofs.Bounds.{raised_is, at_divisor, rise_has_rest, below_numerator}
use Rattle.rounding.proofs.leaf.round.Goals as goal

-- the rest by a product and a difference
rest_is : (n d : ℕ) → n - n / d * d ≡ n % d
rest_is n d = omega (arith, div-add-mod' n d)

-- it fits: the quotient rises only where there is a rest
raised_fits : (b : Bool) (n d : ℕ) → n < 2 ^ 64 → 0 < d → (b ≡ true → 0 < n % d) → Fits w64 (n / d + bool_byte b)
raised_fits true n d fit some rest = record { fits = omega (arith, below_numerator n d some (rest refl)) }
raised_fits false n d fit some rest = record { fits = omega (arith, div-le_self n d) }

pub returns-then-d-eq0 : goal.returns-then-d-eq0
unfolding rounded_magnitude
returns-then-d-eq0 c = simp (eq-eqb _ _ c.if-d-eq0.true)

pub overflow_add-result : goal.overflow_add-result
unfolding is_odd
overflow_add-result c =
    let asked : c.rises.result ≡ rises_by c.args.rule c.args.negative (is_odd (c.args.n / c.args.d)) (rest_of (c.args.n % c.args.d) c.args.d) = let a = c.args in c.rises.ensures ∙ ap (λ x. rises_by a.rule a.negative (is_odd (a.n / a.d)) x) (c.class-rest.ensures ∙ ap (λ (r : ℕ). rest_of r a.d) (rest_is a.n a.d)) in
    let a = c.args in
    raised_fits c.rises.result a.n a.d c.ranges.n.fits (omega (arith, c.if-d-eq0.false))
    (λ e. rise_has_rest a.rule a.negative (is_odd (a.n / a.d)) (a.n % a.d) a.d (sym asked ∙ e))

pub returns : goal.returns
unfolding is_odd
returns c =
    let asked : c.rises.result ≡ rises_by c.args.rule c.args.negative (is_odd (c.args.n / c.args.d)) (rest_of (c.args.n % c.args.d) c.args.d) = let a = c.args in c.rises.ensures ∙ ap (λ x. rises_by a.rule a.negative (is_odd (a.n / a.d)) x) (c.class-rest.ensures ∙ ap (λ (r : ℕ). rest_of r a.d) (rest_is a.n a.d)) in
    let a = c.args in
    raised_is c.rises.result (a.n / a.d) ∙ ap (λ b. raised b (a.n / a.d)) asked
    ∙ sym (at_divisor a.rule a.negative a.n a.d (omega (arith, c.if-d-eq0.false)))
