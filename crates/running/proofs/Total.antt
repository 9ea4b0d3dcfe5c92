-- What the face gives: the rule's running totals where the weights keep their rule, sixteen zeros where they do not; and no units between
-- two net totals that are exchanged, since a running total never falls. Assumes nothing.
use mathlib.Core.Path.{◌≡◌, sym, ap₂, ◌∙◌}
use mathlib.Core.Bool.{true, false}
use mathlib.Core.List.{List}
use Prim.Native.Nat.{ℕ, ◌-◌, ◌≤◌, ◌<◌}
use native.Mathlib.Omega.{arith}
use borrow.Author.Tests.{lt-ltb, le-ltb}
use lib.ListN.{length, get_or}
use lib.Seq.{ext_get_or}
use Rattle.whole.specs.Sums.{sum_of}
use Rattle.whole.proofs.Sums.{get_d_noughts}
use Rattle.units.specs.Rule.{totals}
use Rattle.units.proofs.Added.{length_totals, never_fall}
use Rattle.running.specs.Limits.{partners, weight_sum, zeros, weighed, Weighed}
use Rattle.running.specs.Totals.{totals_at, less_of}
use Rattle.running.proofs.Places.{length_less, less_place}

module _ (ws : List ℕ) where
  -- the weights keep their rule
  pub keeps : 1 ≤ sum_of ws → sum_of ws ≤ weight_sum → weighed ws ≡ true
  unfolding weighed
  keeps some most = rw (le-ltb (sum_of ws) 1 some, le-ltb weight_sum (sum_of ws) most)

  pub breaks_none : sum_of ws < 1 → weighed ws ≡ false
  unfolding weighed
  breaks_none none = rw (lt-ltb (sum_of ws) 1 none)

  pub breaks_many : 1 ≤ sum_of ws → weight_sum < sum_of ws → weighed ws ≡ false
  unfolding weighed
  breaks_many some many = rw (le-ltb (sum_of ws) 1 some, lt-ltb weight_sum (sum_of ws) many)

  pub totals_are : 1 ≤ sum_of ws → sum_of ws ≤ weight_sum → (n : ℕ) → totals_at ws n ≡ totals ws n
  unfolding totals_at
  totals_are some most n = rw (keeps some most)

  pub totals_kept : {sum : ℕ} → Weighed ws sum → (n : ℕ) → totals ws n ≡ totals_at ws n
  totals_kept w n = sym (totals_are (omega (arith, w.same, w.some)) (omega (arith, w.same, w.most)) n)

  pub totals_broken : weighed ws ≡ false → (n : ℕ) → totals_at ws n ≡ zeros
  unfolding totals_at
  totals_broken e n = rw e

  pub between_broken : weighed ws ≡ false → (low high : ℕ) → zeros ≡ less_of (totals_at ws high) (totals_at ws low)
  unfolding less_of
  between_broken e low high = rw (totals_broken e high, totals_broken e low)

  pub between_are : 1 ≤ sum_of ws → sum_of ws ≤ weight_sum → (low high : ℕ)
      → less_of (totals_at ws high) (totals_at ws low) ≡ less_of (totals ws high) (totals ws low)
  between_are some most low high = ap₂ less_of (totals_are some most high) (totals_are some most low)

  module _ {sum : ℕ} (w : Weighed ws sum) (low high : ℕ) where
    some : 1 ≤ sum_of ws
    some = omega (arith, w.same, w.some)

    pub between_kept : less_of (totals ws high) (totals ws low) ≡ less_of (totals_at ws high) (totals_at ws low)
    between_kept = sym (between_are some (omega (arith, w.same, w.most)) low high)

    -- a running total never falls
    pub between_falls : low ≤ high → (i : ℕ) → get_or (totals ws low) i 0 ≤ get_or (totals ws high) i 0
    between_falls h i = never_fall ws some low high h i

    pub between_exchanged : length ws ≡ partners → high < low → zeros ≡ less_of (totals_at ws high) (totals_at ws low)
    between_exchanged long h =
        sym (ext_get_or 0 (less_of (totals ws high) (totals ws low)) zeros (length_less (totals ws high) (totals ws low) ∙ length_totals ws high ∙ long)
        (λ i b. less_place (totals ws high) (totals ws low) i ∙ none i ∙ sym (get_d_noughts partners i)))
        ∙ between_kept
      where
        none : (i : ℕ) → get_or (totals ws high) i 0 - get_or (totals ws low) i 0 ≡ 0
        none i = omega (arith, never_fall ws some high low (omega arith) i)
