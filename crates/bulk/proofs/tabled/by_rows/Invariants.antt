-- After j turns the first j calls are served for the book at the net total so far, whose totals are held. Assumes nothing.
use mathlib.Core.Path.{◌≡◌}
use Prim.Native.Nat.{◌+◌, ◌≤◌}
use Rattle.amount.specs.Amounts.{largest}
use Rattle.units.specs.Rule.{totals}
use Rattle.bulk.proofs.Standing.{Serving}
use Rattle.bulk.proofs.tabled.by_rows.Given as goal

abbrev pub invariant-loop-j : goal.invariant-loop-j
invariant-loop-j l = (l.settled + l.net ≤ largest) × (l.held ≡ totals l.weights l.net)
    × Serving l.refunds l.coefficients l.initial.payouts l.initial.numbers l.weights l.settled l.initial.net l.j l.net l.payouts l.numbers
