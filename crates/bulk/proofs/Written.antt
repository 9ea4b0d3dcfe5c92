-- Numbers copied into a part of a list are written from its first place on. Assumes nothing.
use Rattle.std.proofs.lemmas.List.{append-nil}
use Rattle.std.proofs.lemmas.Slice.{put_mid-paste}
use mathlib.Core.Path.{◌≡◌, sym, ap, ◌∙◌}
use mathlib.Core.List.{List}
use Prim.Native.Nat.{ℕ, zero, suc, ◌+◌, ◌≤◌}
use native.Mathlib.Omega.{arith}
use borrow.Rule.Slice.PartMut.{put_mid}
use lib.ListN.{length, get_or, set, take, take-append-drop}
use lib.Seq.{paste, paste-suc}
use Rattle.whole.specs.Lists.{filled}
use Rattle.bulk.specs.Runs.{written}

pasted : (out numbers : List ℕ) (at n : ℕ) → at + n ≤ length out → n ≤ length numbers → paste out at numbers n ≡ written out at numbers n
unfolding filled
pasted out numbers at zero room enough = let e : at + 0 ≡ at = omega arith in rw (e, append-nil (take at out)) (take-append-drop at out)
pasted out numbers at (suc n) room enough =
    sym (paste-suc out at numbers n 0 (omega arith) (omega arith)) ∙ ap (λ (l : List ℕ). set l (at + n) (get_or numbers n 0)) (pasted out numbers at n (omega arith) (omega arith))

pub copied : (out numbers new : List ℕ) (at n k : ℕ) → new ≡ numbers → n ≡ length numbers → k ≡ n → at + n ≤ length out → put_mid at k out new ≡ written out at numbers n
copied out numbers new at n k same long e room =
    put_mid-paste at k out new numbers n same (sym e) long ∙ pasted out numbers at n room (omega arith)
