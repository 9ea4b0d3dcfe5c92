-- Someone may always take the next unit: if nobody may, then a x W ≥ t x w at each place, and summed over the places the units held
-- are at least t. Assumes nothing.
use mathlib.Core.Path.{◌≡◌, refl}
use mathlib.Core.List.{List}
use Prim.Native.Nat.{ℕ, ◌*◌, ◌≤◌, ◌<◌}
use native.Mathlib.Nat.{le_of_mul-le-mul_right}
use native.Mathlib.Omega.{arith}
use lib.ListN.{length, get_or}
use Rattle.units.specs.Rule.{sum_of, Taker, nobody, place, taker_of}
use Rattle.whole.proofs.Sums.{sum_to, sum_list, sum_le}
use Rattle.units.proofs.Due.{may_not}
use Rattle.units.proofs.Taker.{nobody_may, taker_takes}

module _ (ws held : List ℕ) (t : ℕ) (some : 1 ≤ sum_of ws) (long : length held ≡ length ws) where
  -- where nobody may take unit t, t units are held already
  pub nobody_held : taker_of ws held t ≡ nobody → t ≤ sum_of held
  nobody_held e =
      let W : ℕ = sum_of ws in
      let places : sum_to (λ i. get_or ws i 0) (length ws) * t ≤ sum_to (λ i. get_or held i 0) (length ws) * W =
      sum_le (λ i. get_or ws i 0) (λ i. get_or held i 0) t W (length ws)
      (λ i l. omega (arith, may_not W t (get_or ws i 0) (get_or held i 0) (nobody_may ws held t e i l))) in
      let sums : W * t ≤ sum_of held * W = rw (sum_list ws (length ws) refl, sum_list held (length ws) long) at places in
      le_of_mul-le-mul_right {k = W} (omega arith) some

  -- while fewer units are held, someone takes unit t
  pub someone : sum_of held < t → (p : ℕ) × (taker_of ws held t ≡ place p) × (p < length ws)
  someone h = go (taker_of ws held t) refl
    where
      go : (b : Taker) → taker_of ws held t ≡ b → (p : ℕ) × (taker_of ws held t ≡ place p) × (p < length ws)
      go nobody e = absurd (omega (arith, nobody_held e))
      go (place p) e = (p, e, (taker_takes ws held t p e).partner)
