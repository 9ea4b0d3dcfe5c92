-- The holdings meet the wording, and the wording leaves one list for each number of vouchers: of two such lists, a place with more in the first
-- and a place with more in the second would each rank before the other. Assumes nothing.
use mathlib.Core.Path.{◌≡◌, sym, ap, ◌∙◌}
use mathlib.Core.List.{List}
use Prim.Native.Nat.{ℕ, ◌+◌, ◌*◌, ◌≤◌, ◌<◌}
use native.Mathlib.Nat.{mul-le-mul_left}
use native.Mathlib.Omega.{arith}
use lib.ListN.{length, get_or, replicate}
use lib.Seq.{ext_get_or}
use Rattle.whole.specs.Sums.{sum_of}
use Rattle.whole.proofs.Sums.{sum_list}
use Rattle.whole.proofs.Exchange.{same_places}
use Rattle.average.specs.Rule.{vouchers_of}
use Rattle.average.specs.Wording.{Balanced}
use Rattle.average.proofs.Balanced.{balanced_none, balanced_after}

-- the holdings meet the wording
pub vouchers_balanced : (ws : List ℕ) → 0 < length ws → (n : ℕ) → Balanced ws (vouchers_of n ws)
unfolding vouchers_of
vouchers_balanced ws some n = balanced_after ws some n (replicate (length ws) 0) (balanced_none ws some)

-- the wording leaves one list
module _ (ws h k : List ℕ) (a : Balanced ws h) (b : Balanced ws k) where
  exchange : (i j : ℕ) → i < length ws → j < length ws → get_or k i 0 < get_or h i 0 → get_or h j 0 < get_or k j 0 → ⊥
  exchange i j l m more less =
      let v = get_or ws i 0 in
      let w = get_or ws j 0 in
      let one = a.kept i j l m (omega arith) in
      let other = b.kept j i m l (omega arith) in
      let up : v * (get_or h j 0 + 1) ≤ v * get_or k j 0 = mul-le-mul_left v (omega arith) in
      let down : w * (get_or k i 0 + 1) ≤ w * get_or h i 0 = mul-le-mul_left w (omega arith) in
      let lower : i ≤ j = omega (arith, one.tie (omega (arith, one.least, other.least))) in
      let upper : j ≤ i = omega (arith, other.tie (omega (arith, one.least, other.least))) in
      let equal : i ≡ j = omega arith in
      let there : get_or h i 0 ≡ get_or h j 0 = ap (λ (x : ℕ). get_or h x 0) equal in
      let also : get_or k i 0 ≡ get_or k j 0 = ap (λ (x : ℕ). get_or k x 0) equal in omega arith

  pub balanced_one : sum_of h ≡ sum_of k → h ≡ k
  balanced_one same =
      let long : length h ≡ length k = a.partners ∙ sym b.partners in
      let sums = sum_list h (length ws) a.partners ∙ same ∙ sym (sum_list k (length ws) b.partners) in
      ext_get_or 0 h k long (λ i l. same_places (λ x. get_or h x 0) (λ x. get_or k x 0) (length ws) sums exchange i (omega (arith, a.partners)))
