-- After so many turns the holdings are those after so many vouchers, whose sum they have gained. Assumes nothing.
use mathlib.Core.Path.{◌≡◌, refl, ◌∙◌, ap}
use mathlib.Core.List.{List}
use Prim.Native.Nat.{ℕ, ◌+◌, ◌≤◌, ◌<◌, ◌^◌}
use native.Mathlib.Numerals.{add-one}
use native.Mathlib.Omega.{arith}
use lib.ListN.{length}
use Rattle.whole.specs.Sums.{sum_of}
use Rattle.average.specs.Rule.{give, give_out}
use Rattle.average.proofs.Balanced.{given_length, given_sum}
use Rattle.vouchers.proofs.giving.give_out.Goals as goal

-- the loop's own variables: the holdings after so many vouchers, and after one more
module _ (ws start held : List ℕ) (given : ℕ) (now : held ≡ give_out given ws start) where
  ready : 1 ≤ length ws → length start ≡ length ws → sum_of start + given + 1 < 2 ^ 32
      → (1 ≤ length ws) × ((length held ≡ length ws) × (sum_of held + 1 < 2 ^ 32))
  ready some same room =
      rw now (some, (omega (arith, given_length given ws start), omega (arith, given_sum ws some given start same)))

  next : (after : List ℕ) → after ≡ give ws held → after ≡ give_out (given + 1) ws start
  unfolding give_out
  next after one = rw add-one (one ∙ ap (give ws) now)

pub loop-given-init : goal.loop-given-init
unfolding give_out
loop-given-init c = refl

pub give_one-requires : goal.give_one-requires
give_one-requires c = let a = c.args in
    let at = c.loop-given in
    let all = ready a.weights.now a.held.now at.held at._given at.invariant (omega arith) (omega arith) (omega arith) in record { in_bounds = all.0; held_len = all.1.0; held_bound = all.1.1 }

pub loop-given-preserved : goal.loop-given-preserved
loop-given-preserved c = let a = c.args in
    let at = c.loop-given in
    next a.weights.now a.held.now at.held at._given at.invariant _ c.give_one.ensures
