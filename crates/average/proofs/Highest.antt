-- The scan finds the highest average: no place's weight / (held + 1) is greater, and of equal ones it is the lowest place. By induction on the
-- places seen. Assumes nothing.
use mathlib.Core.Path.{◌≡◌, refl, sym, ◌∙◌, ap}
use mathlib.Core.Bool.{Bool, true, false, cond}
use mathlib.Core.List.{List}
use Prim.Native.Nat.{ℕ, zero, suc, ◌+◌, ◌*◌, ◌≤◌, ◌<◌}
use native.Mathlib.Nat.{le_refl, mul-le-mul_right, mul-lt-mul_of_pos_right, lt_of_mul-lt-mul_right}
use native.Mathlib.Numerals.{add-one}
use native.Mathlib.Omega.{arith}
use borrow.Author.Tests.{ltb-true, ltb-false, lt-ltb, le-ltb}
use lib.Dec.{ltb}
use lib.ListN.{get_or}
use Rattle.whole.proofs.Sums.{and_last}
use Rattle.average.specs.Rule.{highest}
use Rattle.average.specs.Wording.{Before}

-- w / b at most v / a, and v / a less than x / c, is w / b less than x / c
cross : (v a w b x c : ℕ) → 0 < b → w * a ≤ v * b → v * c < x * a → w * c < x * b
cross v a w b x c some first next =
    let p : w * a * c ≤ v * b * c = mul-le-mul_right c first in
    let q : v * c * b < x * a * b = mul-lt-mul_of_pos_right next some in lt_of_mul-lt-mul_right a (omega arith)

module _ (ws held : List ℕ) where
  -- the next voucher of place p comes before that of each of the first n places
  abbrev pub Highest : (n p : ℕ) → Type 0
  Highest n p = (p < n) × ((q : ℕ) → q < n → Before (get_or ws p 0) (get_or held p 0 + 1) p (get_or ws q 0) (get_or held q 0 + 1) q)

  only : (b : Bool) → Highest 1 (cond b 0 0)
  only true = (omega arith, and_last _ 0 (λ q l. absurd (omega arith)) (record { least = le_refl _; tie = λ e. omega arith }))
  only false = (omega arith, and_last _ 0 (λ q l. absurd (omega arith)) (record { least = le_refl _; tie = λ e. omega arith }))

  one_more : (n p : ℕ) → Highest n p → (b : Bool) → ltb (get_or ws p 0 * (get_or held n 0 + 1)) (get_or ws n 0 * (get_or held p 0 + 1)) ≡ b
      → Highest (suc n) (cond b n p)
  one_more n p before true test =
      let more = ltb-true (get_or ws p 0 * (get_or held n 0 + 1)) (get_or ws n 0 * (get_or held p 0 + 1)) test in
      let less : (q : ℕ) → q < n → get_or ws q 0 * (get_or held n 0 + 1) < get_or ws n 0 * (get_or held q 0 + 1) =
      λ q l.
      cross (get_or ws p 0) (get_or held p 0 + 1) (get_or ws q 0) (get_or held q 0 + 1) (get_or ws n 0) (get_or held n 0 + 1) (omega arith) (before.1 q l).least more in (
        omega arith,
        and_last _ n
            (λ q l. record { least = omega (arith, less q l); tie = λ e. absurd (omega (arith, less q l)) })
            (record { least = le_refl _; tie = λ e. omega arith }),
      )
  one_more n p before false test =
      let most = ltb-false (get_or ws p 0 * (get_or held n 0 + 1)) (get_or ws n 0 * (get_or held p 0 + 1)) test in
      (omega (arith, before.0), and_last _ n before.1 (record { least = most; tie = λ e. omega (arith, before.0) }))

  pub highest_is : (n : ℕ) → 0 < n → Highest n (highest ws held n)
  unfolding highest
  highest_is zero some = absurd (omega arith)
  highest_is (suc zero) some = only (ltb (get_or ws 0 0 * (get_or held 0 0 + 1)) (get_or ws 0 0 * (get_or held 0 0 + 1)))
  highest_is (suc (suc n)) some =
      let p = highest ws held (suc n) in
      one_more (suc n) p (highest_is (suc n) (omega arith)) (ltb (get_or ws p 0 * (get_or held (suc n) 0 + 1)) (get_or ws (suc n) 0 * (get_or held p 0 + 1))) refl

  -- as a scan goes: the first place, a higher average, and one that is not higher
  pub scan_start : highest ws held 1 ≡ 0
  unfolding highest
  scan_start = go (ltb (get_or ws 0 0 * (get_or held 0 0 + 1)) (get_or ws 0 0 * (get_or held 0 0 + 1)))
    where
      go : (b : Bool) → ◌≡◌ {A = ℕ} (cond b 0 0) 0
      go true = refl
      go false = refl

  module _ (i place weight next : ℕ) (is : place ≡ highest ws held i) (weighs : weight ≡ get_or ws place 0) (after : next ≡ get_or held place 0 + 1) where
    test_is : ltb (get_or ws (highest ws held i) 0 * (get_or held i 0 + 1)) (get_or ws i 0 * (get_or held (highest ws held i) 0 + 1))
        ≡ ltb (weight * (get_or held i 0 + 1)) (get_or ws i 0 * next)
    test_is = rw (← is, weighs, after)

    pub scan_higher : weight * (get_or held i 0 + 1) < get_or ws i 0 * next → i ≡ highest ws held (i + 1)
    unfolding highest
    scan_higher more = rw (add-one, test_is, lt-ltb (weight * (get_or held i 0 + 1)) (get_or ws i 0 * next) more)

    pub scan_past : get_or ws i 0 * next ≤ weight * (get_or held i 0 + 1) → place ≡ highest ws held (i + 1)
    unfolding highest
    scan_past most = rw (add-one, test_is, le-ltb (weight * (get_or held i 0 + 1)) (get_or ws i 0 * next) most) is
