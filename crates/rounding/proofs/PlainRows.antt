-- The quotient that is found, the leaf's capped one where the second factor isn't 1, serves the rows as the rounded quotient itself does: within the limits it is over 10^18 where that is, and it is the
-- same where no row holds; outside them a row in front holds. Assumes nothing.
use Rattle.std.specs.Prelude.{Ok}
use mathlib.Core.Path.{◌≡◌, refl, sym, ◌∙◌, ap}
use mathlib.Core.Bool.{Bool, true, false}
use mathlib.Core.List.{[], ◌∷◌}
use Prim.Native.Nat.{ℕ, ◌+◌, ◌*◌, ◌<◌, ◌≤◌}
use native.Mathlib.Decide.{ℕ_discrete, dec_lt}
use native.Mathlib.Nat.{mul-one}
use native.Mathlib.Omega.{arith}
use borrow.Author.Tests.{lt-ltb, ltb-false, eq-eqb, ne_eqb}
use lib.Dec.{ltb}
use lib.IntN.{ℤ}
use Rattle.refusal.specs.declared.Refusal.TheVariants.{Magnitude, Rate, Limit}
use Rattle.refusal.specs.Rows.{Said, row, check_of, first_row}
use Rattle.refusal.proofs.Check.{clear}
use Rattle.whole.specs.Whole.{signed_of, held_signed}
use Rattle.whole.proofs.Laws.{held_within}
use Rattle.division.specs.Division.{most}
use Rattle.rounding.specs.declared.Rule.{Rule}
use Rattle.rounding.specs.Leaf.{rounded_magnitude}
use Rattle.rounding.specs.Product.{capped, rounded_product}
use Rattle.rounding.specs.Found.{found_quotient}
use Rattle.rounding.specs.Plain.{limit, plain_rows}
use Rattle.rounding.proofs.Capped.{capped_is, product_within}

capped_over : (n : ℕ) → limit < n → capped n ≡ most + 1
unfolding capped
capped_over n more = rw (lt-ltb most n more)

-- the cap is over 10^18 where the number is
capped_limit : (n : ℕ) → ltb limit (capped n) ≡ ltb limit n
capped_limit n = go (dec_lt limit n)
  where
    go : Dec (limit < n) → ltb limit (capped n) ≡ ltb limit n
    go (yes more) = ap (ltb limit) (capped_over n more) ∙ sym (lt-ltb limit n more)
    go (no f) = ap (ltb limit) (capped_is n (omega arith))

-- and a cap that is within 10^18 is the number
uncapped : (n : ℕ) → capped n ≤ limit → capped n ≡ n
uncapped n h = go (dec_lt limit n)
  where
    go : Dec (limit < n) → capped n ≡ n
    go (yes more) = absurd (omega (arith, capped_over n more))
    go (no f) = capped_is n (omega arith)

-- no row holds: each number is within its limit
pub record Limited (a b d quotient : ℕ) : Type 0 where
  pub first : a ≤ limit
  pub second : b ≤ limit
  pub some : 0 < d
  pub divisor : d ≤ limit
  pub within : quotient ≤ limit

pub limited : (a b d q : ℕ) → check_of (plain_rows a b d q) ≡ Ok tt → Limited a b d q
unfolding plain_rows
limited a b d q e =
    let rows = clear (plain_rows a b d q) e in
    record {
      first = ltb-false limit a rows.0;
      second = ltb-false limit b rows.1.0;
      some = ltb-false d 1 rows.1.1.0;
      divisor = ltb-false limit d rows.1.1.1.0;
      within = ltb-false limit q rows.1.1.1.1.0;
    }

-- a row is asked only where none in front of it holds
behind_clear : (x y z w p q : Bool) (value : Said ℤ) → (x ≡ false → y ≡ false → z ≡ false → w ≡ false → p ≡ q)
    → first_row (row Magnitude x ∷ row Magnitude y ∷ row Rate z ∷ row Rate w ∷ row Limit p ∷ []) value
    ≡ first_row (row Magnitude x ∷ row Magnitude y ∷ row Rate z ∷ row Rate w ∷ row Limit q ∷ []) value
behind_clear true y z w p q value h = refl
behind_clear false true z w p q value h = refl
behind_clear false false true w p q value h = refl
behind_clear false false false true p q value h = refl
behind_clear false false false false p q value h = ap (λ (t : Bool). first_row (row Limit t ∷ []) value) (h refl refl refl refl)

module _ (rule : Rule) (sign : Bool) (a b d : ℕ) where
  -- what is found is the rounded magnitude, or the leaf's of the product
  found_by_one : b ≡ 1 → found_quotient rule sign a b d ≡ rounded_magnitude rule sign (a * b) d
  unfolding found_quotient
  found_by_one e = rw (eq-eqb b 1 e) (ap (λ (n : ℕ). rounded_magnitude rule sign n d) (rw e (sym (mul-one a))))

  found_else : (b ≡ 1 → ⊥) → found_quotient rule sign a b d ≡ rounded_product rule sign a b d
  unfolding found_quotient
  found_else f = rw (ne_eqb b 1 f)

  -- where the factors and the divisor are within their limits, it is over 10^18 where the rounded quotient is
  over_alike : a ≤ limit → b ≤ limit → 0 < d → d ≤ limit
      → ltb limit (found_quotient rule sign a b d) ≡ ltb limit (rounded_magnitude rule sign (a * b) d)
  over_alike one two some most = go (ℕ_discrete b 1)
    where
      go : Dec (b ≡ 1) → ltb limit (found_quotient rule sign a b d) ≡ ltb limit (rounded_magnitude rule sign (a * b) d)
      go (yes e) = ap (ltb limit) (found_by_one e)
      go (no f) =
          ap (ltb limit) (found_else f ∙ product_within rule sign a b d one two some most) ∙ capped_limit (rounded_magnitude rule sign (a * b) d)

  pub same_rows : (value : Said ℤ)
      → first_row (plain_rows a b d (found_quotient rule sign a b d)) value
      ≡ first_row (plain_rows a b d (rounded_magnitude rule sign (a * b) d)) value
  unfolding plain_rows
  same_rows value =
      behind_clear (ltb limit a) (ltb limit b) (ltb d 1) (ltb limit d) (ltb limit (found_quotient rule sign a b d))
      (ltb limit (rounded_magnitude rule sign (a * b) d)) value
      (λ one two some most. over_alike (ltb-false limit a one) (ltb-false limit b two) (ltb-false d 1 some) (ltb-false limit d most))

  pub same_quotient : check_of (plain_rows a b d (found_quotient rule sign a b d)) ≡ Ok tt → found_quotient rule sign a b d ≡ rounded_magnitude rule sign (a * b) d
  same_quotient passed = go (ℕ_discrete b 1)
    where
      go : Dec (b ≡ 1) → found_quotient rule sign a b d ≡ rounded_magnitude rule sign (a * b) d
      go (yes e) = found_by_one e
      go (no f) =
          let l = limited a b d (found_quotient rule sign a b d) passed in
          let capped_so = found_else f ∙ product_within rule sign a b d l.first l.second l.some l.divisor in
          capped_so ∙ uncapped (rounded_magnitude rule sign (a * b) d) (omega (arith, l.within, capped_so))

  -- what the rows let pass, an i64 holds
  pub held_quotient : check_of (plain_rows a b d (found_quotient rule sign a b d)) ≡ Ok tt
      → held_signed sign (found_quotient rule sign a b d) ≡ signed_of sign (rounded_magnitude rule sign (a * b) d)
  held_quotient passed =
      let l = limited a b d (found_quotient rule sign a b d) passed in
      held_within sign (found_quotient rule sign a b d) (omega (arith, l.within)) ∙ ap (signed_of sign) (same_quotient passed)
