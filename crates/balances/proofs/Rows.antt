-- Rows never fall, no interest is more than its balance, and a rate of 0 leaves the principal in every row. Assumes nothing.
use mathlib.Core.Path.{◌≡◌, refl, ◌∙◌, ap}
use mathlib.Core.Bool.{false}
use Prim.Native.Nat.{ℕ, zero, suc, ◌+◌, ◌*◌, ◌≤◌}
use native.Mathlib.Decide.{ℕ_discrete}
use native.Mathlib.Nat.{mul-le-mul_left, mul-zero}
use native.Mathlib.Numerals.{add-one}
use native.Mathlib.Omega.{arith}
use Rattle.rounding.specs.declared.Rule.TheVariants.{HalfEven}
use Rattle.rounding.specs.Leaf.{rounded_magnitude}
use Rattle.rounding.proofs.Nearest.{nearest, half_even}
use Rattle.rounding.proofs.Value.{zero_rounds}
use Rattle.balances.specs.Rule.{points, interest_on, balance_at}

pub interest_at_most : (r b : ℕ) → r ≤ points → interest_on r b ≤ b
unfolding interest_on
interest_at_most r b h =
    let most : b * r ≤ b * points = mul-le-mul_left b h in
    omega (arith, (nearest half_even false (b * r) points (omega arith)).0)

module _ (p r : ℕ) where
  pub first_row_lem : balance_at p r 0 ≡ p
  unfolding balance_at
  first_row_lem = refl

  next_row : (n : ℕ) → balance_at p r (suc n) ≡ balance_at p r n + interest_on r (balance_at p r n)
  unfolding balance_at
  next_row n = refl

  -- as a program counts
  pub row_behind : (n : ℕ) → balance_at p r (n + 1) ≡ balance_at p r n + interest_on r (balance_at p r n)
  row_behind n = rw (add-one, next_row n)

  pub never_falls : (m n : ℕ) → m ≤ n → balance_at p r m ≤ balance_at p r n
  never_falls m zero h = let e : m ≡ 0 = omega arith in rw e (omega arith)
  never_falls m (suc n) h = go (ℕ_discrete m (suc n)) (never_falls m n)
    where
      go : Dec (m ≡ suc n) → (m ≤ n → balance_at p r m ≤ balance_at p r n) → balance_at p r m ≤ balance_at p r (suc n)
      go (yes e) before = rw e (omega arith)
      go (no f) before = omega (arith, before (omega arith), next_row n)

no_interest : (b : ℕ) → interest_on 0 b ≡ 0
unfolding interest_on
no_interest b = ap (λ (x : ℕ). rounded_magnitude HalfEven false x points) (mul-zero b) ∙ zero_rounds HalfEven false points

pub rate_nought : (p n : ℕ) → balance_at p 0 n ≡ p
rate_nought p zero = first_row_lem p 0
rate_nought p (suc n) = omega (arith, next_row p 0 n, no_interest (balance_at p 0 n), rate_nought p n)
