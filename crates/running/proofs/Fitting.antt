-- What the numbers behind the running totals stay below, so that they fit: no weight and no place's full units are over 10,000, and no
-- product of two such numbers is over 100,000,000. Assumes nothing.
use mathlib.Core.Path.{◌≡◌, sym, ap, ◌∙◌}
use mathlib.Core.List.{List}
use Prim.Native.Nat.{ℕ, ◌+◌, ◌-◌, ◌*◌, ◌/◌, ◌≤◌, ◌<◌}
use native.Mathlib.Nat.{mul-le-mul, div-le_self}
use native.Mathlib.Omega.{arith}
use lib.ListN.{get_or}
use Rattle.whole.specs.Sums.{sum_of}
use Rattle.whole.specs.Lists.{filled}
use Rattle.units.specs.Rule.{due}
use Rattle.units.specs.Window.{places_sum, lo, mass_at, mass}
use Rattle.units.proofs.Loops.{sum_step}
use Rattle.units.proofs.Bounds.{lo_bound}
use Rattle.running.specs.Limits.{partners, weight_sum, zeros, Weighed}
use Rattle.running.specs.Taking.{late, due_by, dues_by}
use Rattle.running.specs.declared.full.Split.{Split}
use Rattle.running.specs.Running.{Small, Dues}
use Rattle.running.proofs.Places.{filled_place, place_within}
use Rattle.running.proofs.FirstDue.{due_is}

pub product : (a b : ℕ) → a ≤ weight_sum → b ≤ weight_sum → a * b ≤ 100000000
product a b h k = omega (arith, mul-le-mul h k)

-- each place's share, rounded down
module _ (ws : List ℕ) (sum n : ℕ) (w : Weighed ws sum) (part : n ≤ weight_sum) where
  pub product_share : (i : ℕ) → n * get_or ws i 0 ≤ 100000000
  product_share i = product n (get_or ws i 0) part (omega (arith, place_within ws i, w.same, w.most))

  pub shares_are : (full : List ℕ) (j : ℕ) → full ≡ filled 0 (λ k. n * get_or ws k 0 / sum) j zeros → j ≡ partners
      → (i : ℕ) → i < partners → get_or full i 0 ≡ lo ws n i
  shares_are full j e end i b =
      rw (e, end) (filled_place (λ k. n * get_or ws k 0 / sum) zeros partners i (omega arith) b ∙ ap (λ (s : ℕ). n * get_or ws i 0 / s) w.same)

module _ (s : Split) where
  pub some_weight : 1 ≤ sum_of s.weights
  some_weight = omega (arith, s.same, s.some)

  pub weight_within : (i : ℕ) → get_or s.weights i 0 ≤ weight_sum
  weight_within i = omega (arith, place_within s.weights i, s.same, s.most)

  pub full_within : (i : ℕ) → i < partners → get_or s.full i 0 ≤ s.n
  full_within i b = omega (arith, s.shares i b, s.long, lo_bound s.weights s.n some_weight i (omega (arith, s.long)))

  pub small : Small s.weights s.sum s.full
  small = record { weigh = λ i b. weight_within i; most = s.most; units = λ i b. omega (arith, full_within i b, s.part) }

  -- the products of the sums over the places
  pub product_reached : (t i : ℕ) → t ≤ weight_sum → t * get_or s.weights i 0 ≤ 100000000
  product_reached t i h = product t (get_or s.weights i 0) h (weight_within i)

  pub product_taken : (i : ℕ) → i < partners → get_or s.full i 0 * s.sum ≤ 100000000
  product_taken i b = product (get_or s.full i 0) s.sum (small.units i b) s.most

  -- the mass by the full units is the mass
  pub mass_next : (t i : ℕ) → i < partners
      → places_sum (mass_at s.weights s.n t) (i + 1) ≡ places_sum (mass_at s.weights s.n t) i + (t * get_or s.weights i 0 - get_or s.full i 0 * s.sum)
  mass_next t i b = rw (s.shares i b, s.same) (sum_step (mass_at s.weights s.n t) i)

  pub mass_is : (t j : ℕ) → j ≡ partners → places_sum (mass_at s.weights s.n t) j ≡ mass s.weights s.n t
  unfolding mass
  mass_is t j e = ap (places_sum (mass_at s.weights s.n t)) (e ∙ sym s.long)

-- a due number is before `late`
pub due_early : (sum w a : ℕ) → sum ≤ weight_sum → w ≤ weight_sum → a ≤ weight_sum → due sum w a < late
unfolding due
due_early sum w a s h k = omega (arith, div-le_self ((a + 1) * sum + (w - 1)) w, product a sum k s)

pub dues_are : (ws : List ℕ) (sum : ℕ) (held : List ℕ) → Small ws sum held → Dues ws sum held (dues_by ws sum held)
unfolding dues_by
dues_are ws sum held s i b =
    filled_place (λ k. due_by sum (get_or ws k 0) (get_or held k 0)) zeros partners i (omega arith) b
    ∙ due_is sum (get_or ws i 0) (get_or held i 0) (due_early sum (get_or ws i 0) (get_or held i 0) s.most (s.weigh i b) (s.units i b))
