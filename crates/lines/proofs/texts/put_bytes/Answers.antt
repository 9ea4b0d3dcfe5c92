-- Where the bytes have room they are written, else nothing is. Assumes nothing.
use mathlib.Core.Path.{refl, sym, ◌∙◌}
use Prim.Native.Nat.{◌+◌, ◌≤◌}
use native.Mathlib.Omega.{arith}
use lib.ListN.{length}
use Rattle.std.proofs.lemmas.Slice.{put_mid-paste}
use Rattle.lines.proofs.Fills.{no_room, behind, copied}
use Rattle.lines.proofs.texts.put_bytes.Goals as goal

pub returns-then-out-at : goal.returns-then-out-at
returns-then-out-at c =
    let all = no_room c.args.out.now c.args.at c.args.bytes.now (omega arith) in record { out_after = all.0; value = all.1 }

pub returns-then-out-at-2 : goal.returns-then-out-at-2
returns-then-out-at-2 c =
    let all = no_room c.args.out.now c.args.at c.args.bytes.now (omega arith) in record { out_after = all.0; value = all.1 }

pub returns : goal.returns
returns c =
    let room : c.args.at + length c.args.bytes.now ≤ length c.args.out.now = omega arith in record {
      out_after =
          put_mid-paste c.args.at _ c.args.out.now c.copy_from_slice.new.self c.args.bytes.now (length c.args.bytes.now) c.copy_from_slice.ensures.after (omega arith) refl
          ∙ copied c.args.out.now c.args.at c.args.bytes.now room;
      value = sym (behind c.args.out.now c.args.at c.args.bytes.now room);
    }
