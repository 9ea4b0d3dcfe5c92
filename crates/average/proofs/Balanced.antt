-- Each voucher given out keeps the balance: it goes to the highest average, and what was held before ranked before it. So the vouchers are all
-- given out, and one more never lowers a holding. Assumes nothing.
use mathlib.Core.Path.{◌≡◌, refl, sym, ◌∙◌}
use mathlib.Core.Logic.{◌≢◌}
use mathlib.Core.List.{List}
use Prim.Native.Nat.{ℕ, zero, suc, ◌+◌, ◌*◌, ◌≤◌, ◌<◌}
use native.Mathlib.Decide.{ℕ_discrete}
use native.Mathlib.Nat.{mul-le-mul_left}
use native.Mathlib.Omega.{arith}
use lib.ListN.{length, get_or, set, replicate, length-set, length-replicate}
use lib.Seq.{get_or-set_same, get_or-set_other}
use Rattle.whole.specs.Sums.{sum_of}
use Rattle.whole.proofs.Sums.{sum_set, get_d_noughts}
use Rattle.average.specs.Rule.{highest, give, give_out}
use Rattle.average.specs.Wording.{Before, Balanced}
use Rattle.average.proofs.Highest.{Highest, highest_is}

-- whatever is given out, as many partners hold vouchers
pub given_length : (n : ℕ) (ws held : List ℕ) → length (give_out n ws held) ≡ length held
unfolding give_out give
given_length zero ws held = refl
given_length (suc n) ws held = length-set (give_out n ws held) _ _ ∙ given_length n ws held

module _ (ws : List ℕ) (some : 0 < length ws) where
  pub balanced_none : Balanced ws (replicate (length ws) 0)
  balanced_none =
      record { partners = length-replicate (length ws) 0; kept = λ i j l m held. absurd (omega (arith, get_d_noughts (length ws) i)) }

  -- each voucher raises the sum by one, for there is a place to give it to
  pub given_sum : (n : ℕ) (held : List ℕ) → length held ≡ length ws → sum_of (give_out n ws held) ≡ sum_of held + n
  unfolding give_out give
  given_sum zero held same = omega arith
  given_sum (suc n) held same =
      let now = give_out n ws held in
      let inside = (highest_is ws now (length ws) some).0 in
      omega (arith, sum_set now (highest ws now (length ws)) (omega (arith, given_length n ws held)), given_sum n held same)

  module _ (held : List ℕ) (b : Balanced ws held) where
    p : ℕ
    p = highest ws held (length ws)

    is : Highest ws held (length ws) p
    unfolding p
    is = highest_is ws held (length ws) some

    raised : get_or (give ws held) p 0 ≡ get_or held p 0 + 1
    unfolding p give
    raised = get_or-set_same held p (get_or held p 0 + 1) 0 (omega (arith, is.0, b.partners))

    still : (i : ℕ) → i ≢ p → get_or (give ws held) i 0 ≡ get_or held i 0
    unfolding p give
    still i e = get_or-set_other held p i (get_or held p 0 + 1) 0 e

    kept_next : (i j : ℕ) → i < length ws → j < length ws → 1 ≤ get_or (give ws held) i 0 → Dec (i ≡ p) → Dec (j ≡ p)
        → Before (get_or ws i 0) (get_or (give ws held) i 0) i (get_or ws j 0) (get_or (give ws held) j 0 + 1) j
    kept_next i j l m h (yes e) (yes f) =
        rw (e, f, raised) (record { least = mul-le-mul_left (get_or ws p 0) (omega arith); tie = λ t. omega arith })
    kept_next i j l m h (yes e) (no f) = rw (e, raised, still j f) (is.1 j m)
    kept_next i j l m h (no e) (yes f) =
        let was = b.kept i p l is.0 (rw (still i e) at h) in
        let grown : get_or ws i 0 * (get_or held p 0 + 1) ≤ get_or ws i 0 * (get_or held p 0 + 1 + 1) = mul-le-mul_left (get_or ws i 0) (omega arith) in
        rw (f, raised, still i e) (record { least = omega (arith, was.least); tie = λ t. omega (arith, was.tie (omega (arith, was.least))) })
    kept_next i j l m h (no e) (no f) = rw (still i e, still j f) (b.kept i j l m (rw (still i e) at h))

    pub balanced_next : Balanced ws (give ws held)
    unfolding give
    balanced_next =
        record {
          partners = length-set held _ _ ∙ b.partners;
          kept = λ i j l m h. kept_next i j l m h (ℕ_discrete i p) (ℕ_discrete j p);
        }

    -- one more voucher lowers no holding
    pub next_not_less : (i : ℕ) → get_or held i 0 ≤ get_or (give ws held) i 0
    next_not_less i = go (ℕ_discrete i p)
      where
        go : Dec (i ≡ p) → get_or held i 0 ≤ get_or (give ws held) i 0
        go (yes e) = rw e (omega (arith, raised))
        go (no e) = omega (arith, still i e)

  pub balanced_after : (n : ℕ) (held : List ℕ) → Balanced ws held → Balanced ws (give_out n ws held)
  unfolding give_out
  balanced_after zero held b = b
  balanced_after (suc n) held b = balanced_next (give_out n ws held) (balanced_after n held b)
