-- After so many turns the shares and the remainders are those after so many units, whose sum the shares have gained.
-- Assumes nothing.
use mathlib.Core.Path.{◌≡◌}
use Rattle.remainder.specs.Rule.{Handed, hand_out}
use Rattle.sharing.proofs.spread.hand_out.Given as goal

abbrev pub invariant-loop-given : goal.invariant-loop-given
invariant-loop-given l = let h : Handed = record { shares = l.initial.shares; unserved = l.initial.rests } in
    (l.shares ≡ (hand_out l._given h).shares) × (l.rests ≡ (hand_out l._given h).unserved)
