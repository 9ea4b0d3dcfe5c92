-- After so many turns the shares and the remainders are those after so many units, whose sum the shares have gained.
-- Assumes nothing.
use mathlib.Core.Path.{◌≡◌, refl, ◌∙◌, ap, ap₂}
use mathlib.Core.List.{List}
use Prim.Native.Nat.{ℕ, ◌+◌, ◌≤◌, ◌<◌, ◌^◌}
use native.Mathlib.Numerals.{add-one}
use native.Mathlib.Omega.{arith}
use lib.ListN.{length}
use Rattle.whole.specs.Sums.{sum_of}
use Rattle.remainder.specs.Rule.{Handed, serve, hand_out}
use Rattle.remainder.proofs.Handing.{shares_length, unserved_length, handed_sum}
use Rattle.sharing.proofs.spread.hand_out.Goals as goal

-- the loop's own variables: the shares and the remainders after so many units, and after one more
module _ (h : Handed) (given : ℕ) (ss rs : List ℕ) (shares : ss ≡ (hand_out given h).shares) (rests : rs ≡ (hand_out given h).unserved) where
  ready : 1 ≤ length h.unserved → length h.unserved ≡ length h.shares → sum_of h.shares + given + 1 < 2 ^ 64
      → (1 ≤ length rs) × ((length rs ≡ length ss) × (sum_of ss + 1 < 2 ^ 64))
  ready some same room =
      rw (shares, rests)
      (omega (arith, unserved_length given h), (omega (arith, unserved_length given h, shares_length given h), omega (arith, handed_sum given h some same)))

  next : (ss' rs' : List ℕ) → ss' ≡ (serve (record { shares = ss; unserved = rs })).shares
      → rs' ≡ (serve (record { shares = ss; unserved = rs })).unserved → (ss' ≡ (hand_out (given + 1) h).shares) × (rs' ≡ (hand_out (given + 1) h).unserved)
  unfolding hand_out
  next ss' rs' more less =
      let now : record { shares = ss; unserved = rs } ≡ hand_out given h = ap₂ (λ (s r : List ℕ). record { shares = s; unserved = r }) shares rests in
      rw add-one (more ∙ ap (λ (x : Handed). (serve x).shares) now, less ∙ ap (λ (x : Handed). (serve x).unserved) now)

pub loop-given-init : goal.loop-given-init
unfolding hand_out
loop-given-init c = (refl, refl)

pub serve_one-requires : goal.serve_one-requires
serve_one-requires c = let a = c.args in
    let at = c.loop-given in
    let all = ready (record { shares = a.shares.now; unserved = a.rests.now }) at._given at.shares at.rests at.invariant.0 at.invariant.1
    (omega arith) (omega arith) (omega arith) in record { in_bounds = all.0; rests_len = all.1.0; shares_bound = all.1.1 }

pub loop-given-preserved : goal.loop-given-preserved
loop-given-preserved c = let a = c.args in
    let at = c.loop-given in
    let served = c.serve_one in
    let after =
    next (record { shares = a.shares.now; unserved = a.rests.now }) at._given at.shares at.rests at.invariant.0 at.invariant.1
    served.new.shares served.new.rests served.ensures.shares served.ensures.rests in
    (after.0, after.1)
