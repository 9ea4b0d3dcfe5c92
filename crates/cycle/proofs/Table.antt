-- What a lent table holds after `fill_cycle`: a row for each net total below W where the weights keep their rule and the table has the
-- places, and else what it held. Assumes nothing.
use mathlib.Core.Path.{◌≡◌}
use mathlib.Core.Bool.{true, false}
use mathlib.Core.List.{List}
use Prim.Native.Nat.{ℕ, ◌+◌, ◌≤◌, ◌<◌}
use native.Mathlib.Omega.{arith}
use borrow.Author.Tests.{le-leb, lt-leb}
use lib.ListN.{length}
use Rattle.whole.specs.Sums.{sum_of}
use Rattle.whole.specs.Lists.{filled}
use Rattle.whole.proofs.Lists.{length_filled, filled_inside}
use Rattle.units.specs.Mask.{mask}
use Rattle.running.specs.Limits.{weighed}
use Rattle.running.proofs.Total.{keeps}
use Rattle.cycle.specs.Cycle.{cycle_in, Weighed, Cycled}

module _ (ws table : List ℕ) where
  pub not_weighed : weighed ws ≡ false → table ≡ cycle_in ws table
  unfolding cycle_in
  not_weighed e = rw e

  pub too_short : weighed ws ≡ true → length table < sum_of ws → table ≡ cycle_in ws table
  unfolding cycle_in
  too_short e h = rw (e, lt-leb (sum_of ws) (length table) h)

  pub is_filled : weighed ws ≡ true → sum_of ws ≤ length table → filled 0 (mask ws) (sum_of ws) table ≡ cycle_in ws table
  unfolding cycle_in
  is_filled e h = rw (e, le-leb (sum_of ws) (length table) h)

  -- so it has the rows of the cycle
  pub has_rows : (sum : ℕ) → Weighed ws sum → sum ≤ length table → Cycled ws sum (cycle_in ws table)
  has_rows sum w h =
      let fits : sum_of ws ≤ length table = omega (arith, w.same) in
      rw (← is_filled (keeps ws (omega (arith, w.same, w.some)) (omega (arith, w.same, w.most))) fits) (record {
        fits = rw length_filled h;
        rows = λ n b. let e : 0 + n ≡ n = omega arith in rw e at (filled_inside 0 (mask ws) table 0 (sum_of ws) n (omega (arith, w.same)) (omega arith));
      })
