-- The running totals at any n from those at what is left of it after the whole cycles, in the program's own variables. Assumes nothing.
use mathlib.Core.Path.{◌≡◌, sym}
use mathlib.Core.List.{List}
use Prim.Native.Nat.{ℕ, ◌+◌, ◌*◌, ◌/◌, ◌%◌, ◌≤◌, ◌<◌}
use native.Mathlib.Omega.{arith}
use lib.ListN.{get_or}
use Rattle.whole.specs.Sums.{sum_of}
use Rattle.units.specs.Rule.{totals}
use Rattle.units.proofs.Added.{sum_totals}
use Rattle.units.proofs.Repeats.{by_cycles}
use Rattle.running.specs.declared.full.Split.{Split}
use Rattle.running.specs.Limits.{partners, weight_sum, Weighed}
use Rattle.running.specs.Running.{OneMore}
use Rattle.running.proofs.Places.{place_within}
use Rattle.running.proofs.Fitting.{some_weight}

-- what is left of a place's total
pub left_within : (s : Split) (ahead : List ℕ) → OneMore s.weights s.n s.full ahead → (i : ℕ) → i < partners → get_or s.full i 0 + get_or ahead i 0 ≤ weight_sum
left_within s ahead more i b = omega (arith, more i b, place_within (totals s.weights s.n) i, sum_totals s.weights (some_weight s) s.n, s.part)

module _ {ws : List ℕ} {sum : ℕ} (w : Weighed ws sum) (n : ℕ) {cycle : ℕ} (is : cycle ≡ sum)
    (s : Split) (of : (s.weights ≡ ws) × (s.sum ≡ sum) × (s.n ≡ n % cycle)) (ahead : List ℕ) (more : OneMore s.weights s.n s.full ahead)
    (i : ℕ) (b : i < partners) where
  module _ {weight left : ℕ} (here : weight ≡ get_or ws i 0) (rest : left ≡ get_or s.full i 0 + get_or ahead i 0) where
    some : 1 ≤ sum_of ws
    some = omega (arith, w.same, w.some)

    pub place_total : n / cycle * weight + left ≡ get_or (totals ws n) i 0
    place_total = rw (here, rest, ← more i b, of.0, of.2, is, w.same) (sym (by_cycles ws some n i))

    pub total_within : n / cycle * weight + left ≤ n
    total_within = omega (arith, place_total, place_within (totals ws n) i, sum_totals ws some n)
