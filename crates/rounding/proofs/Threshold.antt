-- Each rule raises the quotient from a certain rest on, and below it leaves the quotient alone: against twice the rest, the threshold is
-- 1, d, d + 1 or the never reached 2 d. What holds of n / d + 1 there, and of n / d elsewhere, holds of the rounded magnitude. Assumes nothing.
use mathlib.Core.Path.{◌≡◌, sym, subst}
use mathlib.Core.Bool.{Bool, true, false, cond}
use Prim.Native.Nat.{ℕ, ◌+◌, ◌/◌, ◌%◌, ◌<◌, ◌≤◌}
use native.Mathlib.Decide.{ℕ_discrete, dec_lt}
use native.Mathlib.Nat.{mod-lt}
use native.Mathlib.Omega.{arith}
use borrow.Author.Tests.{lt-ltb, le-ltb, eq-eqb, ne_eqb}
use Rattle.rounding.specs.declared.Rule.{Rule}
use Rattle.rounding.specs.declared.Rule.TheVariants.{Up, Down, Ceiling, Floor, HalfUp, HalfDown, HalfEven}
use Rattle.rounding.specs.declared.Rest.{Rest}
use Rattle.rounding.specs.declared.Rest.TheVariants.{Exact, Below, Half, Above}
use Rattle.rounding.specs.Modes.{some_rest, from_half, past_half, rises_by}
use Rattle.rounding.specs.Leaf.{rest_of, is_odd, raised, rounded_magnitude}
use Rattle.rounding.proofs.Bounds.{at_divisor}

-- what a class says of its rest and divisor
abbrev pub Says : Rest → (r d : ℕ) → Type 0
Says Exact r d = r ≡ 0
Says Below r d = (0 < r) × (r + r < d)
Says Half r d = (0 < r) × (r + r ≡ d)
Says Above r d = (0 < r) × (d < r + r)

-- a rest has the class that speaks of it
pub class_is : (x : Rest) (r d : ℕ) → Says x r d → rest_of r d ≡ x
unfolding rest_of
class_is Exact r d h = simp (eq-eqb r 0 h)
class_is Below r d h = simp (ne_eqb r 0 (omega arith), lt-ltb (r + r) d (omega arith))
class_is Half r d h = simp (ne_eqb r 0 (omega arith), le-ltb (r + r) d (omega arith), eq-eqb (r + r) d (omega arith))
class_is Above r d h = simp (ne_eqb r 0 (omega arith), le-ltb (r + r) d (omega arith), ne_eqb (r + r) d (omega arith))

-- and its class speaks of it
pub class_says : (r d : ℕ) → Says (rest_of r d) r d
class_says r d = none (ℕ_discrete r 0)
  where
    is : (x : Rest) → Says x r d → Says (rest_of r d) r d
    is x h = subst (λ (y : Rest). Says y r d) (sym (class_is x r d h)) h

    half : (0 < r) → (r + r < d → ⊥) → Dec (r + r ≡ d) → Says (rest_of r d) r d
    half some least (yes e) = is Half (some, e)
    half some least (no f) = is Above (some, omega arith)

    below : (0 < r) → Dec (r + r < d) → Says (rest_of r d) r d
    below some (yes less) = is Below (some, less)
    below some (no f) = half some f (ℕ_discrete (r + r) d)

    none : Dec (r ≡ 0) → Says (rest_of r d) r d
    none (yes e) = is Exact e
    none (no f) = below (omega arith) (dec_lt (r + r) d)

-- the least double of a rest that rises; no rest below d reaches 2 d
abbrev pub threshold : Rule → (negative odd : Bool) (d : ℕ) → ℕ
threshold Up negative odd d = 1
threshold Down negative odd d = d + d
threshold Ceiling negative odd d = cond negative (d + d) 1
threshold Floor negative odd d = cond negative 1 (d + d)
threshold HalfUp negative odd d = d
threshold HalfDown negative odd d = d + 1
threshold HalfEven negative odd d = cond odd d (d + 1)

-- a test is true from t on
abbrev Reaches : Bool → (t x : ℕ) → Type 0
Reaches true t x = t ≤ x
Reaches false t x = x < t

module _ (r d : ℕ) (h : r < d) where
  some_reaches : (x : Rest) → Says x r d → Reaches (some_rest x) 1 (r + r)
  some_reaches Exact s = omega arith
  some_reaches Below s = omega arith
  some_reaches Half s = omega arith
  some_reaches Above s = omega arith

  from_reaches : (x : Rest) → Says x r d → Reaches (from_half x) d (r + r)
  from_reaches Exact s = omega arith
  from_reaches Below s = omega arith
  from_reaches Half s = omega arith
  from_reaches Above s = omega arith

  past_reaches : (x : Rest) → Says x r d → Reaches (past_half x) (d + 1) (r + r)
  past_reaches Exact s = omega arith
  past_reaches Below s = omega arith
  past_reaches Half s = omega arith
  past_reaches Above s = omega arith

  never_reaches : Reaches false (d + d) (r + r)
  never_reaches = omega arith

  reaches : (rule : Rule) (negative odd : Bool) (x : Rest) → Says x r d → Reaches (rises_by rule negative odd x) (threshold rule negative odd d) (r + r)
  reaches Up negative odd x s = some_reaches x s
  reaches Down negative odd x s = never_reaches
  reaches Ceiling true odd x s = never_reaches
  reaches Ceiling false odd x s = some_reaches x s
  reaches Floor true odd x s = some_reaches x s
  reaches Floor false odd x s = never_reaches
  reaches HalfUp negative odd x s = from_reaches x s
  reaches HalfDown negative odd x s = past_reaches x s
  reaches HalfEven negative true x s = from_reaches x s
  reaches HalfEven negative false x s = past_reaches x s

pub threshold_some : (rule : Rule) (negative odd : Bool) (d : ℕ) → 0 < d → 0 < threshold rule negative odd d
threshold_some Up negative odd d h = omega arith
threshold_some Down negative odd d h = omega arith
threshold_some Ceiling true odd d h = omega arith
threshold_some Ceiling false odd d h = omega arith
threshold_some Floor true odd d h = omega arith
threshold_some Floor false odd d h = omega arith
threshold_some HalfUp negative odd d h = omega arith
threshold_some HalfDown negative odd d h = omega arith
threshold_some HalfEven negative true d h = omega arith
threshold_some HalfEven negative false d h = omega arith

-- THE LAW: the rounded magnitude is n / d + 1 where twice the rest reaches the threshold, and n / d elsewhere
pub by_threshold : (rule : Rule) (negative : Bool) (n d : ℕ) → 0 < d → (P : ℕ → Type 0)
    → (threshold rule negative (is_odd (n / d)) d ≤ n % d + n % d → P (n / d + 1))
    → (n % d + n % d < threshold rule negative (is_odd (n / d)) d → P (n / d))
    → P (rounded_magnitude rule negative n d)
by_threshold rule negative n d h P rises stays =
    rw (at_divisor rule negative n d h)
    (at (rises_by rule negative (is_odd (n / d)) (rest_of (n % d) d))
    (reaches (n % d) d (mod-lt n h) rule negative (is_odd (n / d)) (rest_of (n % d) d) (class_says (n % d) d)))
  where
    at : (b : Bool) → Reaches b (threshold rule negative (is_odd (n / d)) d) (n % d + n % d) → P (raised b (n / d))
    at true reached = rises reached
    at false short = stays short
