-- The loop's invariant: what the digits give is what those that are left give after the sum so far, which a u64 holds. Assumes nothing.
use mathlib.Core.Path.{◌≡◌}
use Prim.Native.Nat.{◌≤◌}
use lib.ListN.{drop}
use Rattle.lines.specs.Lines.{whole_of, most}
use Rattle.lines.proofs.Scans.{scanned}
use Rattle.lines.proofs.numbers.whole_of.Given as goal

abbrev pub invariant-loop-byte : goal.invariant-loop-byte
invariant-loop-byte l =
    record {
      held : l.magnitude ≤ most;
      left : whole_of l.negative l.digits ≡ scanned l.negative l.magnitude (drop l.byte-index l.digits);
    }
