-- A sum is exact, by whole numbers over the common denominator, since powers of ten add their exponents and a factor goes over a sum.
-- It does not depend on the order of its terms: the same number is refused, or the same amount given. Assumes nothing.
use mathlib.Core.Path.{◌≡◌, refl, sym, ◌∙◌, ap, ap₂}
use mathlib.Core.Bool.{Bool, true, false}
use mathlib.Core.List.{List, [], ◌∷◌}
use Prim.Native.Nat.{ℕ, ◌+◌, ◌-◌, ◌≤◌, ◌^◌, max}
use native.Mathlib.Decide.{ℕ_discrete}
use native.Mathlib.Nat.{le-max_left, le-max_right, max_comm}
use native.Mathlib.Omega.{arith}
use borrow.Author.Tests.{eq-eqb, ne_eqb}
use lib.IntN.{ℤ, pos, +ℤ_comm, ◌+ℤ◌, ◌*ℤ◌}
use Rattle.refusal.specs.declared.Refusal.{Refusal}
use Rattle.refusal.specs.declared.Refusal.TheVariants.{Scale, Magnitude, Unknown, Differ}
use Rattle.refusal.specs.Rows.{Said, Row, row, first_row}
use Rattle.whole.specs.Whole.{magnitude_of}
use Rattle.currency.specs.declared.Currency.{Currency}
use Rattle.currency.specs.Table.{unknown, differ}
use Rattle.amount.specs.declared.Amount.{Amount}
use Rattle.amount.specs.Amounts.{bad_scale, over_l, limited, raised_to}
use Rattle.amount.specs.Sum.{pair_rows, greater_scale, total, sum_said}
use Rattle.amount.proofs.Factors.{times_tens, sum_times}
use Rattle.amount.proofs.ByWorth.{worth}

-- THE LAW: the total over 10^(the greater scale) is the first coefficient over 10^(its scale) and the second over 10^(its scale)
pub exact : (a b : Amount)
    → total a b *ℤ pos (10 ^ (a.scale + b.scale)) ≡ (worth a b +ℤ worth b a) *ℤ pos (10 ^ greater_scale a b)
exact a b =
    let s = a.scale in
    let t = b.scale in
    let g = max s t in
    let x = a.coefficient in
    let y = b.coefficient in
    let least : s ≤ g = le-max_left s t in
    let least2 : t ≤ g = le-max_right s t in
    sum_times (raised_to g a) (raised_to g b) (10 ^ (s + t))
    ∙ ap₂ (λ (u v : ℤ). u +ℤ v) (times_tens x (g - s) (s + t) (t + g) (omega arith) ∙ sym (times_tens x t g (t + g) refl))
    (times_tens y (g - t) (s + t) (s + g) (omega arith) ∙ sym (times_tens y s g (s + g) refl))
    ∙ sym (sum_times (worth a b) (worth b a) (10 ^ g))

-- the total with its terms exchanged
same_total : (a b : Amount) → total a b ≡ total b a
same_total a b =
    +ℤ_comm (raised_to (greater_scale a b) a) (raised_to (greater_scale a b) b)
    ∙ ap (λ (g : ℕ). raised_to g b +ℤ raised_to g a) (max_comm a.scale b.scale)

-- the amount of a sum
abbrev pub made : Amount → Amount → Amount
made a b = record { currency = a.currency; scale = greater_scale a b; coefficient = total a b }

same_made : (a b : Amount) → a.currency.0 ≡ b.currency.0 → made a b ≡ made b a
same_made a b e =
    ap (λ (n : ℕ). record { currency = record { 0 = n }; scale = greater_scale a b; coefficient = total a b }) e
    ∙ ap₂ (λ (g : ℕ) (z : ℤ). record { currency = b.currency; scale = g; coefficient = z }) (max_comm a.scale b.scale) (same_total a b)

module _ {A : Type 0} (v w : Said A) where
  -- two rows of one refusal, exchanged
  exchanged : (r : Refusal) (p q : Bool) (xs ys : List Row) → first_row xs v ≡ first_row ys w
      → first_row (row r p ∷ row r q ∷ xs) v ≡ first_row (row r q ∷ row r p ∷ ys) w
  exchanged r true true xs ys e = refl
  exchanged r true false xs ys e = refl
  exchanged r false true xs ys e = refl
  exchanged r false false xs ys e = e

  -- what stands behind row 5 matters only where the currencies agree
  differing : (c d : Currency) → (c.0 ≡ d.0 → v ≡ w) → first_row (row Differ (differ c d) ∷ []) v ≡ first_row (row Differ (differ d c) ∷ []) w
  differing c d same = go (ℕ_discrete c.0 d.0)
    where
      go : Dec (c.0 ≡ d.0) → first_row (row Differ (differ c d) ∷ []) v ≡ first_row (row Differ (differ d c) ∷ []) w
      go (yes e) = rw (eq-eqb c.0 d.0 e, eq-eqb d.0 c.0 (sym e)) (same e)
      go (no f) = rw (ne_eqb c.0 d.0 f, ne_eqb d.0 c.0 (λ e. f (sym e)))

  -- so the rows of two amounts stop the same calls either way round
  pub same_rows : (s t m n : ℕ) (c d : Currency) → (c.0 ≡ d.0 → v ≡ w) → first_row (pair_rows s t m n c d) v ≡ first_row (pair_rows t s n m d c) w
  unfolding pair_rows
  same_rows s t m n c d same =
      exchanged Scale (bad_scale s) (bad_scale t) (magnitudes m n c d) (magnitudes n m d c)
      (exchanged Magnitude (over_l m) (over_l n) (currencies c d) (currencies d c)
      (exchanged Unknown (unknown c) (unknown d) (row Differ (differ c d) ∷ []) (row Differ (differ d c) ∷ []) (differing c d same)))
    where
      currencies : (c d : Currency) → List Row
      currencies c d = row Unknown (unknown c) ∷ row Unknown (unknown d) ∷ row Differ (differ c d) ∷ []

      magnitudes : (m n : ℕ) → (c d : Currency) → List Row
      magnitudes m n c d = row Magnitude (over_l m) ∷ row Magnitude (over_l n) ∷ currencies c d

-- THE LAW: the sum does not depend on the order of its terms
pub either_way : (a b : Amount) → sum_said a b ≡ sum_said b a
unfolding sum_said
either_way a b =
    same_rows (limited (total a b) (made a b)) (limited (total b a) (made b a))
    a.scale b.scale (magnitude_of a.coefficient) (magnitude_of b.coefficient) a.currency b.currency
    (λ e. ap₂ limited (same_total a b) (same_made a b e))
