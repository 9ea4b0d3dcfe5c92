-- Each place's due number is stored in its turn. Assumes nothing.
use mathlib.Core.Path.{◌≡◌}
use lib.ListN.{get_or}
use Rattle.whole.specs.Lists.{filled}
use Rattle.running.specs.Limits.{zeros}
use Rattle.running.specs.Taking.{due_by}
use Rattle.running.proofs.taking.due_numbers.Given as goal

abbrev pub invariant-loop-i : goal.invariant-loop-i
invariant-loop-i l = l.due ≡ filled 0 (λ k. due_by l.sum (get_or l.weights k 0) (get_or l.held k 0)) l.i zeros
