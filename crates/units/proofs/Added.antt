-- The running totals at n add to n, and each unit raises the total of its taker by one and no other's: someone takes each unit, and a
-- unit given changes one place of the list. Assumes nothing.
use mathlib.Core.Path.{◌≡◌, refl, sym, ap, subst, ◌∙◌}
use mathlib.Core.Logic.{◌≢◌}
use mathlib.Core.List.{List}
use Prim.Native.Nat.{ℕ, zero, suc, ◌+◌, ◌≤◌}
use native.Mathlib.Nat.{le_refl, le_trans}
use native.Mathlib.Decide.{ℕ_discrete, le_ind}
use native.Mathlib.Omega.{arith}
use lib.ListN.{length, get_or, set, length-set, length-replicate}
use lib.Seq.{get_or-set_same, get_or-set_other}
use Rattle.units.specs.Rule.{sum_of, Taker, nobody, place, taker_of, give, totals}
use Rattle.units.specs.Wording.{Takes}
use Rattle.whole.proofs.Sums.{sum_set, sum_noughts, get_d_noughts}
use Rattle.units.proofs.Taker.{takes_taker, taker_takes}
use Rattle.units.proofs.Someone.{someone}

-- before any unit every total is 0
pub totals_none : (ws : List ℕ) (i : ℕ) → get_or (totals ws 0) i 0 ≡ 0
unfolding totals
totals_none ws i = get_d_noughts (length ws) i

length_give : (b : Taker) (held : List ℕ) → length (give b held) ≡ length held
length_give nobody held = refl
length_give (place p) held = length-set held p (get_or held p 0 + 1)

module _ (ws : List ℕ) where
  pub length_totals : (n : ℕ) → length (totals ws n) ≡ length ws
  unfolding totals
  length_totals zero = length-replicate (length ws) 0
  length_totals (suc n) = length_give (taker_of ws (totals ws n) (suc n)) (totals ws n) ∙ length_totals n

  module _ (n p : ℕ) (taker : Takes ws (totals ws n) (suc n) p) where
    -- unit n + 1 given to its taker
    pub totals_taker : totals ws (suc n) ≡ set (totals ws n) p (get_or (totals ws n) p 0 + 1)
    unfolding totals
    totals_taker = ap (λ (b : Taker). give b (totals ws n)) (takes_taker ws (totals ws n) (suc n) p taker)

    -- unit n + 1 raises its taker's total by one
    pub raised : get_or (totals ws (suc n)) p 0 ≡ get_or (totals ws n) p 0 + 1
    raised = rw totals_taker (get_or-set_same (totals ws n) p (get_or (totals ws n) p 0 + 1) 0 (rw length_totals taker.partner))

    -- and no other's
    pub kept : (i : ℕ) → i ≢ p → get_or (totals ws (suc n)) i 0 ≡ get_or (totals ws n) i 0
    kept i e = rw totals_taker (get_or-set_other (totals ws n) p i (get_or (totals ws n) p 0 + 1) 0 e)

module _ (ws : List ℕ) (some : 1 ≤ sum_of ws) where
  -- while the totals add to n, someone takes unit n + 1
  taken_from : (n : ℕ) → sum_of (totals ws n) ≡ n → (p : ℕ) × Takes ws (totals ws n) (suc n) p
  taken_from n e =
      let t = someone ws (totals ws n) (suc n) some (length_totals ws n) (omega arith) in
      (t.0, taker_takes ws (totals ws n) (suc n) t.0 t.1)

  -- the totals at n add to n
  pub sum_totals : (n : ℕ) → sum_of (totals ws n) ≡ n
  unfolding totals
  sum_totals zero = sum_noughts (length ws)
  sum_totals (suc n) = go (taken_from n (sum_totals n)) (sum_totals n)
    where
      go : (p : ℕ) × Takes ws (totals ws n) (suc n) p → sum_of (totals ws n) ≡ n → sum_of (totals ws (suc n)) ≡ suc n
      go t e = rw (totals_taker ws n t.0 t.1) (omega (arith, sum_set (totals ws n) t.0 (rw length_totals t.1.partner)))

  -- each unit has a taker
  pub taken : (n : ℕ) → (p : ℕ) × Takes ws (totals ws n) (suc n) p
  taken n = taken_from n (sum_totals n)

  -- what holds of the taker, raised by one, and of a place that is kept, holds of each place after unit n + 1
  pub each_place : (P : ℕ → Type 0) (n : ℕ)
      → ((p : ℕ) → Takes ws (totals ws n) (suc n) p → get_or (totals ws (suc n)) p 0 ≡ get_or (totals ws n) p 0 + 1 → P p)
      → ((p i : ℕ) → Takes ws (totals ws n) (suc n) p → i ≢ p → get_or (totals ws (suc n)) i 0 ≡ get_or (totals ws n) i 0 → P i)
      → (i : ℕ) → P i
  each_place P n taker other i = go (taken n).0 (taken n).1 (ℕ_discrete (taken n).0 i)
    where
      go : (p : ℕ) → Takes ws (totals ws n) (suc n) p → Dec (p ≡ i) → P i
      go p c (yes e) = subst P e (taker p c (raised ws n p c))
      go p c (no e) = let apart : i ≢ p = λ f. e (sym f) in other p i c apart (kept ws n p c i apart)

  -- totals never fall
  pub never_fall : (n m : ℕ) → n ≤ m → (i : ℕ) → get_or (totals ws n) i 0 ≤ get_or (totals ws m) i 0
  never_fall n m h i =
      le_ind (λ k. get_or (totals ws n) i 0 ≤ get_or (totals ws k) i 0) (le_refl (get_or (totals ws n) i 0)) (λ k l b. le_trans b (next k i)) m h
    where
      next : (k i : ℕ) → get_or (totals ws k) i 0 ≤ get_or (totals ws (suc k)) i 0
      next k = each_place (λ i. get_or (totals ws k) i 0 ≤ get_or (totals ws (suc k)) i 0) k (λ p c e. omega arith) (λ p i c d e. omega arith)
