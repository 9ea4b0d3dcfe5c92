-- The units left, place by place: m less the shares of the places passed, of which there is always enough for the next. Assumes nothing.
use mathlib.Core.Path.{◌≡◌, sym, ◌∙◌}
use mathlib.Core.List.{List}
use Prim.Native.Nat.{ℕ, zero, suc, ◌+◌, ◌-◌, ◌≤◌, ◌<◌}
use native.Mathlib.Nat.{add-suc, add-zero, le_dest}
use native.Mathlib.Numerals.{add-one}
use native.Mathlib.Omega.{arith}
use lib.ListN.{length, get_or}
use Rattle.whole.specs.Sums.{sum_of}
use Rattle.whole.proofs.Sums.{sum_to, sum_list}
use Rattle.remainder.specs.Rule.{rounded_down, units_left}
use Rattle.remainder.proofs.Remainders.{rounded_length, rounded_within}

-- the first places add up to no more than all of them
sum_first : (f : ℕ → ℕ) (i k : ℕ) → sum_to f i ≤ sum_to f (i + k)
unfolding sum_to
sum_first f i zero = rw (add-zero i) (omega arith)
sum_first f i (suc k) = rw (add-suc i k) (omega (arith, sum_first f i k))

-- the units left at a place, and behind it
module _ (m : ℕ) (ws : List ℕ) (some : 1 ≤ sum_of ws) (i left : ℕ) (so_far : left + sum_to (λ k. get_or (rounded_down m ws) k 0) i ≡ m) where
  pub enough : i < length ws → get_or (rounded_down m ws) i 0 ≤ left
  unfolding sum_to
  enough inside =
      let f : ℕ → ℕ = λ k. get_or (rounded_down m ws) k 0 in
      let rest : (k : ℕ) × (suc i + k ≡ length ws) = le_dest inside in
      let all : sum_to f (length ws) ≡ sum_of (rounded_down m ws) = sum_list (rounded_down m ws) (length ws) (rounded_length m ws) in
      let part : sum_to f (suc i) ≤ sum_to f (length ws) = rw (← rest.1) (sum_first f (suc i) rest.0) in
      omega (arith, rounded_within m ws some)

  pub less_left : i < length ws → left - get_or (rounded_down m ws) i 0 + sum_to (λ k. get_or (rounded_down m ws) k 0) (i + 1) ≡ m
  unfolding sum_to
  less_left inside = rw add-one (omega (arith, enough inside))

  pub all_left : i ≡ length ws → left ≡ units_left m ws
  unfolding units_left
  all_left e = omega (arith, sum_list (rounded_down m ws) i (rounded_length m ws ∙ sym e))
