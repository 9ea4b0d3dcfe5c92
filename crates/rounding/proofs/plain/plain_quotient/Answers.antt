-- A refused choice of the rule is row 1; behind it stand the other rows and the rounded quotient of the product. Assumes nothing.
use Rattle.std.specs.Prelude.{Err}
use Rattle.std.proofs.lemmas.Result.{err_from_is_err_and}
use Rattle.refusal.specs.Rows.{means}
use mathlib.Core.Path.{sym, ◌∙◌, ap, ap₂}
use mathlib.Core.Bool.{Bool}
use Prim.Native.Nat.{ℕ, ◌*◌}
use lib.IntN.{ℤ, ◌*ℤ◌}
use Rattle.refusal.specs.Rows.{Said, gives}
use Rattle.whole.specs.Whole.{negative, magnitude_of, signed_of}
use Rattle.whole.proofs.Laws.{read_back}
use Rattle.rounding.specs.declared.Rule.{Rule}
use Rattle.rounding.specs.Leaf.{rounded, rounded_magnitude}
use Rattle.rounding.specs.Plain.{plain_rows, behind_mode, quotient_of, plain_said}
use Rattle.rounding.proofs.Chosen.{mode_refused, mode_chosen, rule_chosen}
use Rattle.rounding.proofs.Factors.{product_sign, by_factors}
use Rattle.rounding.proofs.plain.plain_quotient.Goals as goal

-- what the rows behind row 1 say, from the sign and the magnitudes
behind : Rule → ℕ → Bool → (m n : ℕ) → Said ℤ
behind rule d sign m n = behind_mode m n d (signed_of sign (rounded_magnitude rule sign (m * n) d))

pub returns-in_err-rule : goal.returns-in_err-rule
unfolding plain_said
returns-in_err-rule c =
    let p = err_from_is_err_and c.from_residual.result c.from_residual.ensures.1 in
    ap means (p.1 ∙ ap Err p.2)
    ∙ (let a = c.args in
    let q = quotient_of a.mode a.a a.b a.d in
    sym
    (mode_refused (gives q) (plain_rows (magnitude_of a.a) (magnitude_of a.b) a.d (magnitude_of q)) a.mode c.in_err-rule.field-0.0
    (sym c.try_from.ensures ∙ c.in_err-rule.was)))

pub returns : goal.returns
unfolding plain_said behind quotient_of
returns c = let n = c in
    let i = n in
    let k = i in
    let s = k in
    let a = s.args in
    let rule = k.in_ok-rule.rule in
    let chosen = sym k.try_from.ensures ∙ k.in_ok-rule.was in
    let x = read_back a.a s.ranges.a.sfits in
    let y = read_back a.b s.ranges.b.sfits in
    let sign = product_sign (negative a.a) (negative a.b) in
    let q = quotient_of a.mode a.a a.b a.d in
    c.by_rule.ensures
    ∙ ap (λ (t : Bool). behind rule a.d t c.magnitude.result c.magnitude-2.result)
    (n.sign_of_product.ensures ∙ ap₂ product_sign (i.is_negative.ensures ∙ ap negative x) (n.is_negative-2.ensures ∙ ap negative y))
    ∙ ap₂ (behind rule a.d sign) (c.magnitude.ensures ∙ ap magnitude_of x) (c.magnitude-2.ensures ∙ ap magnitude_of y)
    ∙ ap (behind_mode (magnitude_of a.a) (magnitude_of a.b) a.d) (sym (by_factors rule a.a a.b a.d))
    ∙ ap (λ (r : Rule). behind_mode (magnitude_of a.a) (magnitude_of a.b) a.d (rounded r (a.a *ℤ a.b) a.d)) (sym (rule_chosen a.mode rule chosen))
    ∙ sym (mode_chosen (gives q) (plain_rows (magnitude_of a.a) (magnitude_of a.b) a.d (magnitude_of q)) a.mode rule chosen)
