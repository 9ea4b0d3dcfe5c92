-- The number in euro as it was computed is the definition's, so its test is row 13's and the way out starts from it. Assumes nothing.
use mathlib.Core.Path.{◌≡◌, sym, ◌∙◌, ap, ap₂, subst}
use Prim.Native.Nat.{ℕ, ◌<◌, ◌≤◌}
use native.Mathlib.Omega.{arith}
use borrow.Author.Tests.{lt-ltb, le-ltb}
use Rattle.std.specs.Prelude.{Bool, ℤ}
use Rattle.refusal.specs.Rows.{refuses}
use Rattle.whole.specs.Whole.{magnitude_of, signed_of}
use Rattle.whole.proofs.Laws.{magnitude_signed}
use Rattle.rounding.specs.Product.{capped}
use Rattle.currency.specs.declared.Currency.{Currency}
use Rattle.amount.specs.Amounts.{largest}
use Rattle.euro.specs.Conversion.{settled, exchanged}
use Rattle.euro.specs.Through.{decimals_of, into_euro, out_of_euro}
use Rattle.euro.proofs.Settled.{capped_least, over, same, settles}
use Rattle.euro.proofs.Through.{onward, through, into_sign, out_sign}
use Rattle.euro.proofs.conversion.exchange.Goals as goal

-- The number in euro as it was computed, of an amount's magnitude.
computed : (decimals k : ℕ) (from : Currency) (z : ℤ) (n : ℕ) → n ≡ capped (magnitude_of (into_euro k from z)) → k ≡ decimals → n ≡ capped (magnitude_of (into_euro decimals from z))
computed decimals k from z n h e = h ∙ ap (λ (i : ℕ). capped (magnitude_of (into_euro i from z))) e

over_limit : (decimals : ℕ) (to : Currency) (z : ℤ) → largest < capped (magnitude_of z) → refuses 13 0 ≡ onward decimals to z
over_limit decimals to z h = sym (rw (lt-ltb largest (magnitude_of z) (over (magnitude_of z) h)))

within : (decimals : ℕ) (to : Currency) (z : ℤ) → capped (magnitude_of z) ≤ largest → settled to (out_of_euro decimals to z) ≡ onward decimals to z
within decimals to z h = sym (rw (le-ltb largest (magnitude_of z) (subst (λ (n : ℕ). n ≤ largest) (same (magnitude_of z) h) h)))

-- The exchange is the definition's, onward from the number in euro.
exchanges : (decimals : ℕ) (from to : Currency) (negative : Bool) (m : ℕ) → m ≤ largest → (from.0 ≡ to.0 → ⊥) → onward (decimals_of decimals from to) to (into_euro (decimals_of decimals from to) from (signed_of negative m)) ≡ exchanged decimals from to (signed_of negative m)
exchanges decimals from to negative m h ne = through decimals from to (signed_of negative m) (omega (arith, magnitude_signed negative m, h)) ne

pub returns-then-step-gt-L : goal.returns-then-step-gt-L
returns-then-step-gt-L c =
    let a = c.args in
    let places = decimals_of a.decimals a.from a.to in
    let is = computed places _ a.from (signed_of a.negative a.m) _ (c.into_euro-step.ensures a.negative) c.step_decimals-places.ensures in
    over_limit places a.to (into_euro places a.from (signed_of a.negative a.m)) (subst (λ (n : ℕ). largest < n) is c.if-step-gt-L.true)
    ∙ exchanges a.decimals a.from a.to a.negative a.m c.requires.3 c.requires.4

pub settle-requires : goal.settle-requires
settle-requires c = rw (c.out_of_euro.ensures c.args.negative) (capped_least _)

pub returns : goal.returns
returns c =
    let a = c.args in
    let places = decimals_of a.decimals a.from a.to in
    let step = into_euro places a.from (signed_of a.negative a.m) in
    let d = c.step_decimals-places in
    let n = c.into_euro-step.result in
    let is_capped = computed places _ a.from (signed_of a.negative a.m) _ (c.into_euro-step.ensures a.negative) d.ensures in
    let small = subst (λ (k : ℕ). k ≤ largest) is_capped c.if-step-gt-L.false in
    let is : signed_of a.negative n ≡ step =
    ap (signed_of a.negative) (is_capped ∙ same (magnitude_of step) small) ∙ into_sign places a.negative a.m a.from in
    c.settle.ensures
    ∙ ap (λ (k : ℕ). settled a.to (signed_of a.negative k)) (c.out_of_euro.ensures a.negative)
    ∙ settles a.to a.negative (out_of_euro d.result a.to (signed_of a.negative n)) (out_sign d.result a.negative n a.to)
    ∙ ap₂ (λ (k : ℕ) (z : ℤ). settled a.to (out_of_euro k a.to z)) d.ensures is
    ∙ within places a.to step small
    ∙ exchanges a.decimals a.from a.to a.negative a.m c.requires.3 c.requires.4
