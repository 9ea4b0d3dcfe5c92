-- The sum so far is that of the coefficients passed, each within L. Assumes nothing.
use mathlib.Core.Path.{◌≡◌}
use lib.IntN.{pos}
use lib.ListN.{get_or}
use Rattle.statement.specs.Files.{total_of}
use Rattle.statement.proofs.writing.sum_of.Given as goal

abbrev pub invariant-loop-coefficient : goal.invariant-loop-coefficient
invariant-loop-coefficient l = l.sum ≡ total_of (λ k. get_or l.coefficients k (pos 0)) l.coefficient-index
