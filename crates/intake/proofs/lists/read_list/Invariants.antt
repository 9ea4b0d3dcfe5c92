-- After each turn one number more is written. Assumes nothing.
use mathlib.Core.Path.{◌≡◌}
use Prim.Native.Nat.{◌+◌}
use Rattle.lines.specs.declared.Number.{Number}
use Rattle.whole.specs.Lists.{filled}
use Rattle.intake.specs.Numbers.{nth}
use Rattle.intake.proofs.lists.read_list.Given as goal

abbrev pub invariant-loop-i : goal.invariant-loop-i
invariant-loop-i g l =
    (taken : Number → _) → ((n : Number) (r : _) → goal.F-post g l.take n r → r ≡ taken n)
    → l.list ≡ filled 0 (λ k. taken (nth l.numbers (l.from + k))) l.i l.initial.list
