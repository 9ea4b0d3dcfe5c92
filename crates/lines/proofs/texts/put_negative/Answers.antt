-- Where the minus and the digits have room they are written, else nothing is. Assumes nothing.
use mathlib.Core.Path.{◌≡◌, sym, ◌∙◌}
use mathlib.Core.List.{◌∷◌}
use Prim.Native.Nat.{suc, ◌+◌, ◌≤◌}
use native.Mathlib.Omega.{arith}
use lib.ListN.{length}
use Rattle.lines.specs.Texts.{decimal}
use Rattle.lines.proofs.Fills.{no_room, behind, put_first}
use Rattle.lines.proofs.texts.put_negative.Goals as goal

pub returns-then-out-at : goal.returns-then-out-at
returns-then-out-at c = let s = c in
    let all = no_room s.args.out.now s.args.at (45 ∷ decimal 20 s.args.m) (omega arith) in record { out_after = all.0; value = all.1 }

pub returns-then-out-at-2 : goal.returns-then-out-at-2
returns-then-out-at-2 c = let s = c in
    let all = no_room s.args.out.now s.args.at (45 ∷ decimal 20 s.args.m) (omega (arith, c.places-count.ensures)) in record { out_after = all.0; value = all.1 }

pub returns : goal.returns
returns c = let s = c in
    let count = c.places-count in
    let room : s.args.at + suc (length (decimal 20 s.args.m)) ≤ length s.args.out.now = omega (arith, count.ensures) in record {
      out_after = c.fill.ensures ∙ put_first s.args.out.now s.args.at 45 (decimal 20 s.args.m) room;
      value = let e : s.args.at + 1 + count.result ≡ s.args.at + suc (length (decimal 20 s.args.m)) = omega (arith, count.ensures) in
          e ∙ sym (behind s.args.out.now s.args.at (45 ∷ decimal 20 s.args.m) room);
    }
