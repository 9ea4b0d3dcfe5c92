-- The number is the same from every line that the loop came to: no line before it has the code. Assumes nothing.
use mathlib.Core.Path.{◌≡◌}
use Prim.Native.Nat.{suc, ◌≤◌}
use lib.ListN.{drop}
use Rattle.currency.specs.Table.{currencies, last_currency}
use Rattle.text.specs.Codes.{number_from, number_of}
use Rattle.text.proofs.codes.by_letters.Given as goal

abbrev pub invariant-loop-i : goal.invariant-loop-i
invariant-loop-i l = (l.i ≤ suc last_currency) × (number_of l.a l.b l.c ≡ number_from l.a l.b l.c l.i (drop l.i currencies))
