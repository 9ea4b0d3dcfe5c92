-- The loop's invariant: the digits end where they end from the place that the loop came to, and what they make is what those that are left make behind the number
-- so far, which has at most as many digits as bytes were passed. Assumes nothing.
use mathlib.Core.Path.{◌≡◌}
use Prim.Native.Nat.{◌^◌, ◌≤◌, ◌<◌}
use lib.ListN.{length}
use Rattle.lines.specs.Lines.{is_digit, worth}
use Rattle.lines.proofs.Spans.{ends}
use Rattle.text.specs.Scan.{digits_from}
use Rattle.text.proofs.reading.scan.Given as goal

abbrev pub invariant-loop-i : goal.invariant-loop-i
invariant-loop-i l = (l.i ≤ length l.bytes) × (l.number < 10 ^ l.i) × (ends is_digit l.bytes l.at ≡ ends is_digit l.bytes l.i) × (worth l.before (digits_from l.bytes l.at) ≡ worth l.number (digits_from l.bytes l.i))
