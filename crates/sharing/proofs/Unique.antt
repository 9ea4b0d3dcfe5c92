-- Two answers that the promise of a sharing allows are equal, and so are the two outputs. Assumes nothing.
use Rattle.std.specs.Prelude.{Result, ⊤}
use mathlib.Core.Path.{◌≡◌}
use mathlib.Core.List.{List}
use Prim.Native.Nat.{ℕ}
use lib.IntN.{ℤ}
use Rattle.refusal.specs.Rows.{means_outcome}
use Rattle.amount.specs.declared.Amount.{Amount}
use Rattle.weights.specs.Lent.{out_after}
use Rattle.weights.proofs.Lent.{one_lent}
use Rattle.remainder.specs.Rule.{signed_shares}
use Rattle.refusal.specs.declared.Refusal.{Refusal}
use Rattle.sharing.specs.Shared.{shared_said}

pub one_share : (a : Amount) (ws : List ℕ) (room : ℕ) (out : List ℤ) (r s : Result ⊤ Refusal) (o p : List ℤ)
    → means_outcome r (signed_shares a.coefficient ws) ≡ shared_said a ws room → o ≡ out_after (shared_said a ws room) out
    → means_outcome s (signed_shares a.coefficient ws) ≡ shared_said a ws room → p ≡ out_after (shared_said a ws room) out
    → (r ≡ s) × (o ≡ p)
one_share a ws room out = one_lent (signed_shares a.coefficient ws) out (shared_said a ws room)
