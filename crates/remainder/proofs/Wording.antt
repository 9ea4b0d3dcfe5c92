-- The shares meet document 01's wording, and the wording leaves one list: of two lists that meet it, a place with more in the first and a
-- place with more in the second would each stand before the other. Assumes nothing.
use mathlib.Core.Path.{◌≡◌, sym, ◌∙◌}
use mathlib.Core.Logic.{◌⊎◌, inl, inr, ⊎_elim}
use mathlib.Core.List.{List}
use Prim.Native.Nat.{ℕ, ◌+◌, ◌≤◌, ◌<◌}
use native.Mathlib.Omega.{arith}
use lib.ListN.{length, get_or}
use lib.Seq.{ext_get_or}
use Rattle.whole.specs.Sums.{sum_of}
use Rattle.whole.proofs.Sums.{sum_list}
use Rattle.whole.proofs.Exchange.{same_places}
use Rattle.remainder.specs.Rule.{shares_of}
use Rattle.remainder.specs.Wording.{down_at, remainder_at, Meets}
use Rattle.remainder.proofs.Remainders.{units_complete}
use Rattle.remainder.proofs.Shares.{length_is, sum_is, down_or_more, largest_first}

module _ (m : ℕ) (ws : List ℕ) where
  -- the shares meet the wording
  pub shares_meet : 1 ≤ sum_of ws → Meets m ws (shares_of m ws)
  shares_meet some =
      record {
        partners = length_is m ws;
        each = λ i l. down_or_more m ws some i;
        left = sum_is m ws some ∙ sym (units_complete m ws some);
        largest = λ i j k l more same. ⊎_elim (λ less. omega arith) (λ tie. omega arith) (largest_first m ws some i j l more same);
        lower = λ i j k l more same tie. ⊎_elim (λ less. absurd (omega arith)) (λ both. omega arith) (largest_first m ws some i j l more same);
      }

  -- the wording leaves one list
  module _ (s t : List ℕ) (a : Meets m ws s) (b : Meets m ws t) where
    -- one place has more in s, and has one unit more there and none in t
    raised : (s t d : ℕ) → (s ≡ d) ⊎ (s ≡ d + 1) → (t ≡ d) ⊎ (t ≡ d + 1) → t < s → (s ≡ d + 1) × (t ≡ d)
    raised s t d (inr more) (inl same) less = (more, same)
    raised s t d (inl e) (inl f) less = absurd (omega arith)
    raised s t d (inl e) (inr f) less = absurd (omega arith)
    raised s t d (inr e) (inr f) less = absurd (omega arith)

    exchange : (i j : ℕ) → i < length ws → j < length ws → get_or t i 0 < get_or s i 0 → get_or s j 0 < get_or t j 0 → ⊥
    exchange i j k l more less =
        let here = raised (get_or s i 0) (get_or t i 0) (down_at m ws i) (a.each i k) (b.each i k) more in
        let there = raised (get_or t j 0) (get_or s j 0) (down_at m ws j) (b.each j l) (a.each j l) less in
        let one = a.largest i j k l here.0 there.1 in
        let other = b.largest j i l k there.0 here.1 in
        let tie : remainder_at m ws j ≡ remainder_at m ws i = omega arith in
        omega (arith, a.lower i j k l here.0 there.1 tie, b.lower j i l k there.0 here.1 (sym tie))

    pub meets_one : s ≡ t
    meets_one =
        let long : length s ≡ length t = a.partners ∙ sym b.partners in
        let sums = sum_list s (length ws) a.partners ∙ a.left ∙ sym b.left ∙ sym (sum_list t (length ws) b.partners) in
        ext_get_or 0 s t long (λ i l. same_places (λ k. get_or s k 0) (λ k. get_or t k 0) (length ws) sums exchange i (omega (arith, a.partners)))

  -- so what meets the wording is the shares
  pub meets_shares : 1 ≤ sum_of ws → (s : List ℕ) → Meets m ws s → s ≡ shares_of m ws
  meets_shares some s a = meets_one s (shares_of m ws) a (shares_meet some)
