-- Rescaling up and back down gives the amount again under every mode: the power of ten divides the raised coefficient, and every rule gives an
-- exact quotient itself. Assumes nothing.
use Rattle.std.specs.Prelude.{Ok}
use mathlib.Core.Path.{◌≡◌, refl, ◌∙◌, ap, subst}
use mathlib.Core.Bool.{true, false, cond}
use mathlib.Core.List.{List, [], ◌∷◌}
use Prim.Native.Nat.{ℕ, ◌-◌, ◌≤◌, ◌^◌}
use native.Mathlib.Decide.{dec_le}
use native.Mathlib.Omega.{arith}
use borrow.Author.Tests.{le-leb, lt-leb, le-ltb, ltb-false}
use lib.Dec.{leb}
use lib.IntN.{ℤ, pos, ◌*ℤ◌}
use Rattle.refusal.specs.declared.Refusal.TheVariants.{Mode, Limit}
use Rattle.refusal.specs.Rows.{Said, gives, Row, row, first_row, check_of}
use Rattle.refusal.proofs.Check.{passed, clear}
use Rattle.whole.specs.Whole.{magnitude_of}
use Rattle.rounding.specs.declared.Rule.{Rule}
use Rattle.rounding.specs.Modes.{bad_mode, rule_of}
use Rattle.rounding.specs.Leaf.{rounded}
use Rattle.rounding.proofs.Exact.{exact}
use Rattle.currency.specs.declared.Currency.{Currency}
use Rattle.currency.specs.Table.{last_currency}
use Rattle.amount.specs.declared.Amount.{Amount}
use Rattle.amount.specs.Amounts.{largest, last_scale, over_l, limited, raised_to}
use Rattle.amount.specs.Rescaling.{rescale_rows, rescaled, rescale_by_rule, rescale_said}
use Rattle.amount.proofs.Factors.{times_one, times_tens}
use Rattle.amount.proofs.Limits.{Sound, rescalable}
use Rattle.amount.proofs.Scales.{ten_some}

-- the amount at a new scale
abbrev pub moved : Rule → ℕ → Amount → Amount
moved rule t a = record { currency = a.currency; scale = t; coefficient = rescaled rule t a }

-- to a greater scale no rule is asked
pub raised : (rule : Rule) (t : ℕ) (a : Amount) → a.scale ≤ t → rescaled rule t a ≡ raised_to t a
unfolding rescaled
raised rule t a h = rw (le-leb a.scale t h)

-- the raised coefficient, rounded back by any rule
pub lowered_again : (rule : Rule) (t : ℕ) (a : Amount) → rounded rule (raised_to t a) (10 ^ (t - a.scale)) ≡ a.coefficient
lowered_again rule t a = exact rule a.coefficient (10 ^ (t - a.scale)) (ten_some (t - a.scale))

pub back : (rule rule₂ : Rule) (t : ℕ) (a : Amount) → a.scale ≤ t → rescaled rule₂ a.scale (moved rule t a) ≡ a.coefficient
unfolding rescaled
back rule rule₂ t a h = rw (le-leb a.scale t h) (go (dec_le t a.scale))
  where
    go : Dec (t ≤ a.scale)
        → cond (leb t a.scale) (raised_to t a *ℤ pos (10 ^ (a.scale - t))) (rounded rule₂ (raised_to t a) (10 ^ (t - a.scale)))
        ≡ a.coefficient
    go (yes same) =
        rw (le-leb t a.scale same)
        (times_tens a.coefficient (t - a.scale) (a.scale - t) 0 (omega arith) ∙ times_one a.coefficient)
    go (no further) = rw (lt-leb t a.scale (omega arith)) (lowered_again rule₂ t a)

-- an accepted call: no row held, and the value is what was given
accepted : {A : Type 0} (x : A) (rows : List Row) (v : Said A) → first_row rows v ≡ gives x → (check_of rows ≡ Ok tt) × (v ≡ gives x)
accepted x [] v e = (refl, e)
accepted x (row r true ∷ rows) v e = let z : ◌≡◌ {A = ℕ} 0 1 = cc in absurd (omega arith)
accepted x (row r false ∷ rows) v e = accepted x rows v e

-- the rows of the way back hold as little as those of the way there
passes : (s t m : ℕ) (c : Currency) → s ≤ last_scale → t ≤ last_scale → m ≤ largest → c.0 ≤ last_currency → check_of (rescale_rows s t m c) ≡ Ok tt
passes s t m c h k l n = simp (le-ltb last_scale s h, le-ltb last_scale t k, le-ltb largest m l, le-ltb last_currency c.0 n)

-- the way back, by the rule
return : (a : Amount) (t : ℕ) (rule rule₂ : Rule) → a.scale ≤ t → Sound a.scale (magnitude_of a.coefficient) a.currency
    → t ≤ last_scale → magnitude_of (rescaled rule t a) ≤ largest → rescale_by_rule rule₂ a.scale (moved rule t a) ≡ gives a
return a t rule rule₂ h sound scaled within =
    let z = rescaled rule₂ a.scale (moved rule t a) in
    passed (limited z (record { currency = a.currency; scale = a.scale; coefficient = z }))
    (rescale_rows t a.scale (magnitude_of (rescaled rule t a)) a.currency)
    (passes t a.scale (magnitude_of (rescaled rule t a)) a.currency scaled sound.scaled within sound.known)
    ∙ ap (λ (x : ℤ). limited x (record { currency = a.currency; scale = a.scale; coefficient = x })) (back rule rule₂ t a h)
    ∙ rw (le-ltb largest (magnitude_of a.coefficient) sound.within)

-- THE LAW: an amount that was rescaled to a scale not below its own comes back from there, under every mode
pub up_and_back : (a b : Amount) (t mode mode₂ : ℕ) → a.scale ≤ t → mode₂ ≤ 6 → rescale_said a t mode ≡ gives b
    → rescale_said b a.scale mode₂ ≡ gives a
unfolding rescale_said bad_mode
up_and_back a b t mode mode₂ h chosen e =
    let rule = rule_of mode in
    let z = rescaled rule t a in
    let behind = accepted b (row Mode (bad_mode mode) ∷ []) (rescale_by_rule rule t a) e in
    let checked = accepted b (rescale_rows a.scale t (magnitude_of a.coefficient) a.currency) (limited z (moved rule t a)) behind.1 in
    let made = accepted b (row Limit (over_l (magnitude_of z)) ∷ []) (gives (moved rule t a)) checked.1 in
    let limits = rescalable a.scale t (magnitude_of a.coefficient) a.currency checked.0 in
    let within : magnitude_of z ≤ largest = ltb-false largest (magnitude_of z) (clear (row Limit (over_l (magnitude_of z)) ∷ []) made.0).0 in
    let same : moved rule t a ≡ b = given made.1 in
    subst (λ (x : Amount). rescale_said x a.scale mode₂ ≡ gives a) same
    (rw (le-ltb 6 mode₂ chosen) (return a t rule (rule_of mode₂) h limits.0 limits.1 within))
  where
    given : {x y : Amount} → ◌≡◌ {A = Said Amount} (gives x) (gives y) → x ≡ y
    given e = cc
