-- The vouchers left, given out from the shares rounded down, are those given out one at a time from nothing. Assumes nothing.
use mathlib.Core.Path.{◌≡◌, ◌∙◌}
use mathlib.Core.List.{List}
use Prim.Native.Nat.{ℕ, ◌+◌, ◌≤◌, ◌<◌, ◌^◌}
use native.Mathlib.Omega.{arith}
use lib.ListN.{length}
use Rattle.whole.specs.Sums.{sum_of}
use Rattle.remainder.specs.Rule.{rounded_down, units_left}
use Rattle.remainder.proofs.Remainders.{rounded_length, units_complete}
use Rattle.average.specs.Rule.{give_out, vouchers_of}
use Rattle.average.proofs.Start.{from_shares}
use Rattle.vouchers.proofs.giving.give_all.Goals as goal

-- what `start` left
module _ (count : ℕ) (ws : List ℕ) (left : ℕ) (held : List ℕ) (rest : left ≡ units_left count ws) (down : held ≡ rounded_down count ws) where
  ready : 1 ≤ length ws → 1 ≤ sum_of ws → count < 2 ^ 32 → (1 ≤ length ws) × ((length held ≡ length ws) × (sum_of held + left < 2 ^ 32))
  ready some above few = rw (rest, down) (some, (rounded_length count ws, omega (arith, units_complete count ws above)))

  all : (after : List ℕ) → 1 ≤ length ws → 1 ≤ sum_of ws → after ≡ give_out left ws held → after ≡ vouchers_of count ws
  all after some above out = (rw (rest, down) at out) ∙ from_shares ws some above count

pub give_out-requires : goal.give_out-requires
give_out-requires c = let a = c.args in
    let s = c.start-left in
    let all = ready a.count a.weights.now s.result s.new.held s.ensures.left s.ensures.held (omega arith) (omega arith) (omega arith) in record { in_bounds = all.0; held_len = all.1.0; vouchers_bound = all.1.1 }

pub returns : goal.returns
returns c = let a = c.args in
    let s = c.start-left in
    all a.count a.weights.now s.result s.new.held s.ensures.left s.ensures.held _ (omega arith) (omega arith) c.give_out.ensures
