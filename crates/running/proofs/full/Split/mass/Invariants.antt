-- The sum over the places passed, at most 100,000,000 for each. Assumes nothing.
use mathlib.Core.Path.{◌≡◌}
use Prim.Native.Nat.{◌*◌, ◌≤◌}
use Rattle.units.specs.Window.{places_sum, mass_at}
use Rattle.running.proofs.full.Split.mass.Given as goal

abbrev pub invariant-loop-i : goal.invariant-loop-i
invariant-loop-i l = (l.mass ≡ places_sum (mass_at l.self.weights l.self.n l.t) l.i) × (l.mass ≤ l.i * 100000000)
