-- The bytes passed, from the last one on, hold the number so far. Assumes nothing.
use mathlib.Core.Path.{◌≡◌}
use Prim.Native.Nat.{◌+◌, ◌-◌}
use Rattle.statement.specs.Bytes.{number_at}
use Rattle.statement.proofs.numbers.number_at.Given as goal

abbrev pub invariant-loop-i : goal.invariant-loop-i
invariant-loop-i l = l.number ≡ number_at l.bytes (l.at + l.i) (l.count - l.i)
