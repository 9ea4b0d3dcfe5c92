-- Document 02, Ask 8, "There and back": "for every row of the rate table but the euro's, and every euro amount for which both conversions are
-- accepted: with s the old unit's digits, 2 x K x 10^s times the change in cents, taken without its sign, is at most K x 10^s + 10^(2 + k).
-- Where 10^(2 + k) is less than K x 10^s, the amount comes back unchanged." Each step is at most half a unit from exact, so one argument
-- serves every line of the table. Assumes nothing.
use mathlib.Core.Path.{◌≡◌, sym, ◌∙◌, ap, ap₂, subst}
use mathlib.Core.Bool.{false}
use Prim.Native.Nat.{ℕ, ◌+◌, ◌-◌, ◌*◌, ◌<◌, ◌≤◌}
use native.Mathlib.Decide.{dec_le}
use native.Mathlib.Nat.{mul-pos, one-le-pow, lt_of_mul-lt-mul_right}
use native.Mathlib.Omega.{arith}
use borrow.Author.Tests.{ne_eqb, eqb-true, ltb-false, not-false}
use lib.Dec.{eqb}
use lib.IntN.{ℤ, pos, ◌*ℤ◌}
use Rattle.refusal.specs.Rows.{gives}
use Rattle.refusal.proofs.Check.{clear}
use Rattle.refusal.proofs.Joined.{same_value, let_pass}
use Rattle.whole.specs.Whole.{negative, magnitude_of, signed_of}
use Rattle.whole.proofs.Laws.{sign_and_magnitude}
use Rattle.rounding.specs.declared.Rule.TheVariants.{HalfUp}
use Rattle.rounding.specs.Leaf.{rounded, rounded_magnitude}
use Rattle.rounding.proofs.Apart.{distance, apart}
use Rattle.rounding.proofs.Nearest.{Near as Nearest, nearest, half_up}
use Rattle.currency.specs.declared.Currency.{Currency}
use Rattle.currency.specs.declared.Line.{Line}
use Rattle.currency.specs.Table.{line_of, last_currency}
use Rattle.currency.specs.Digits.{not_own_digits}
use Rattle.currency.specs.Names.{EUR}
use Rattle.amount.specs.declared.Amount.{Amount}
use Rattle.euro.specs.Steps.{to_euro, from_euro, cents}
use Rattle.euro.specs.Conversion.{convert_rows, convert_by_said}
use Rattle.euro.specs.ThereAndBack.{unit, parts, Near, Finer}
use Rattle.euro.proofs.Magnitudes.{step}
use Rattle.euro.proofs.HalfUnit.{has_rate}
use Rattle.euro.proofs.ExactlyWhen.{convert_by_said_lem, made, result_of, all_rows}

-- on magnitudes: u is near m x A / B and b near u x B / A
near_twice : (A B m u b : ℕ) → Nearest (m * A) B u → Nearest (u * B) A b → 2 * A * ((b - m) + (m - b)) ≤ A + B
near_twice A B m u b there back = go (dec_le m b)
  where
    go : Dec (m ≤ b) → 2 * A * ((b - m) + (m - b)) ≤ A + B
    go (yes less) =
        let e : b - m + m ≡ b = omega arith in
        let f : (b - m + m) * A ≡ b * A = ap (λ (x : ℕ). x * A) e in
        let z : m - b ≡ 0 = omega arith in rw z (omega arith)
    go (no f) =
        let e : m - b + b ≡ m = omega arith in
        let g : (m - b + b) * A ≡ m * A = ap (λ (x : ℕ). x * A) e in
        let z : b - m ≡ 0 = omega arith in rw z (omega arith)

module _ (l : Line) (rate : 0 < l.figures) where
  some : 0 < unit l
  some = mul-pos rate (one-le-pow l.digits 10 (omega arith))

  -- there and back by sign and magnitude: the magnitudes' distance is bounded
  returned : (n : ℤ)
      → (b : ℕ)
      × (to_euro l cents (from_euro l cents n) ≡ signed_of (negative n) b)
      × (2 * unit l * ((b - magnitude_of n) + (magnitude_of n - b)) ≤ unit l + parts l)
  unfolding to_euro from_euro
  returned n =
      let sign = negative n in
      let m = magnitude_of n in
      let u = rounded_magnitude HalfUp sign (m * unit l) (parts l) in
      let there : rounded HalfUp (n *ℤ pos (unit l)) (parts l) ≡ signed_of sign u =
      ap (λ (z : ℤ). rounded HalfUp (z *ℤ pos (unit l)) (parts l)) (sym (sign_and_magnitude n)) ∙ step sign m (unit l) (parts l) in (
        rounded_magnitude HalfUp sign (u * parts l) (unit l),
        ap (λ (z : ℤ). rounded HalfUp (z *ℤ pos (parts l)) (unit l)) there ∙ step sign u (parts l) (unit l),
        near_twice (unit l) (parts l) m u (rounded_magnitude HalfUp sign (u * parts l) (unit l))
            (nearest half_up sign (m * unit l) (parts l) (one-le-pow (l.places + cents) 10 (omega arith)))
            (nearest half_up sign (u * parts l) (unit l) some),
      )

  near : (n : ℤ) → 2 * unit l * distance (to_euro l cents (from_euro l cents n)) n ≤ unit l + parts l
  near n =
      let r = returned n in
      rw (ap₂ distance r.1 (sym (sign_and_magnitude n)) ∙ apart (negative n) r.0 (magnitude_of n)) r.2

  unchanged : Finer l → (n : ℤ) → to_euro l cents (from_euro l cents n) ≡ n
  unchanged less n =
      let r = returned n in
      let m = magnitude_of n in
      let far : (r.0 - m) + (m - r.0) < 1 = lt_of_mul-lt-mul_right (2 * unit l) (omega (arith, r.2)) in
      r.1 ∙ ap (signed_of (negative n)) (omega arith) ∙ sign_and_magnitude n

-- a euro amount at the euro's own digits
in_cents : (scale : ℕ) → not_own_digits EUR scale ≡ false → scale ≡ (line_of EUR).digits
unfolding not_own_digits line_of
in_cents scale e = eqb-true scale 2 (not-false (eqb scale 2) e)

-- the calls, by any decimals of the step: a euro amount, the old unit that it becomes, and the euro amount that comes back
module _ (k j : ℕ) (a x y : Amount) (to : Currency) (euro : a.currency ≡ EUR) (old : to.0 ≡ EUR.0 → ⊥)
    (there : convert_by_said a to k ≡ gives x) (back : convert_by_said x EUR j ≡ gives y) where
  -- what the way there tells: no row of it holds, so the old unit is one of the table's and the euro amount is in cents
  taken : (to.0 ≤ last_currency) × (a.scale ≡ (line_of EUR).digits)
  unfolding convert_rows
  taken =
      let rows = clear (all_rows k a to) (let_pass (result_of k a to) x (all_rows k a to) (sym (convert_by_said_lem a to k) ∙ there)) in (
        ltb-false last_currency to.0 rows.1.1.1.1.1.1.0,
        in_cents a.scale (subst (λ (c : Currency). not_own_digits c a.scale ≡ false) euro rows.1.0),
      )

  x_is : x ≡ made to (from_euro (line_of to) cents a.coefficient)
  x_is =
      sym (same_value (result_of k a to) x (all_rows k a to) (sym (convert_by_said_lem a to k) ∙ there))
      ∙ simp (ap (λ (c : Currency). c.0) euro, ne_eqb EUR.0 to.0 (λ e. old (sym e)))

  y_is : y ≡ made EUR (to_euro (line_of to) cents (from_euro (line_of to) cents a.coefficient))
  y_is =
      sym (same_value (result_of j x EUR) y (all_rows j x EUR) (sym (convert_by_said_lem x EUR j) ∙ back))
      ∙ rw x_is (simp (ne_eqb to.0 EUR.0 old))

  rate : 0 < (line_of to).figures
  rate = has_rate to taken.0

  -- THE LAW, for every row of the table
  pub there_and_back : Near (line_of to) a y
  there_and_back = rw y_is (omega (arith, near (line_of to) rate a.coefficient))

  pub comes_back : Finer (line_of to) → y ≡ a
  comes_back less =
      y_is ∙ ap (made EUR) (unchanged (line_of to) rate less a.coefficient)
      ∙ sym (ap₂ (λ (c : Currency) (s : ℕ). record { currency = c; scale = s; coefficient = a.coefficient }) euro taken.1)
