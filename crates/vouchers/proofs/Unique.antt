-- Two answers that the promise of `vouchers` allows are equal, and so are the two outputs. Assumes nothing.
use Rattle.std.specs.Prelude.{Result, ⊤}
use mathlib.Core.Path.{◌≡◌}
use mathlib.Core.List.{List}
use Prim.Native.Nat.{ℕ}
use Rattle.refusal.specs.Rows.{means_outcome}
use Rattle.weights.specs.Lent.{out_after}
use Rattle.weights.proofs.Lent.{one_lent}
use Rattle.average.specs.Rule.{vouchers_of}
use Rattle.refusal.specs.declared.Refusal.{Refusal}
use Rattle.vouchers.specs.Said.{vouchers_said}

pub one_vouchers : (count : ℕ) (ws : List ℕ) (room : ℕ) (out : List ℕ) (r s : Result ⊤ Refusal) (o p : List ℕ)
    → means_outcome r (vouchers_of count ws) ≡ vouchers_said count ws room → o ≡ out_after (vouchers_said count ws room) out
    → means_outcome s (vouchers_of count ws) ≡ vouchers_said count ws room → p ≡ out_after (vouchers_said count ws room) out
    → (r ≡ s) × (o ≡ p)
one_vouchers count ws room out = one_lent (vouchers_of count ws) out (vouchers_said count ws room)
