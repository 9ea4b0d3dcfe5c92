-- The end of the digits is the same from every place that the loop came to: it passed only digits. Assumes nothing.
use mathlib.Core.Path.{◌≡◌}
use Prim.Native.Nat.{◌≤◌, max}
use lib.ListN.{length}
use Rattle.lines.specs.Lines.{is_digit}
use Rattle.lines.proofs.Spans.{ends}
use Rattle.text.proofs.reading.digits_end.Given as goal

abbrev pub invariant-loop-i : goal.invariant-loop-i
invariant-loop-i l = (l.i ≤ max l.at (length l.bytes)) × (ends is_digit l.bytes l.at ≡ ends is_digit l.bytes l.i)
