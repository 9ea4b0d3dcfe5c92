-- Without room nothing is put, and else the text stands in front of what is lent from the place on. Assumes nothing.
use mathlib.Core.Path.{ap}
use Prim.Native.Nat.{ℕ, ◌+◌}
use native.Mathlib.Omega.{arith}
use Rattle.text.proofs.AtPlace.{no_scale, no_place, placed}
use Rattle.text.proofs.putting.put_text.Goals as goal

pub returns-then-scale-gt-SCALE : goal.returns-then-scale-gt-SCALE
returns-then-scale-gt-SCALE c = let a = c.args in
    let all = no_scale a.out.now a.at a.negative a.m a.scale c.if-scale-gt-SCALE.true in record { out_after = all.0; value = all.1 }

pub returns-then-out-at : goal.returns-then-out-at
returns-then-out-at c = let a = c.args in
    let all = no_place a.out.now a.at a.negative a.m a.scale (omega arith) (omega arith) in record { out_after = all.0; value = all.1 }

pub returns-then-out-at-2 : goal.returns-then-out-at-2
returns-then-out-at-2 c = let a = c.args in
    let all = no_place a.out.now a.at a.negative a.m a.scale (omega arith) (omega (arith, c.length_of-length.ensures)) in record { out_after = all.0; value = all.1 }

pub returns : goal.returns
returns c =
    let a = c.args in
    let all = placed a.out.now a.at a.negative a.m a.scale (omega arith) (omega (arith, c.length_of-length.ensures)) _ c.put.ensures _ (ap (λ (k : ℕ). a.at + k) c.length_of-length.ensures) in
    record { out_after = all.0; value = all.1 }
