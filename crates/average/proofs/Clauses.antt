-- What document 02, Ask 12, says of the vouchers, sentence by sentence, for any weights with a sum above 0. Assumes nothing.
use mathlib.Core.Path.{◌≡◌, refl, ◌∙◌}
use mathlib.Core.List.{List}
use Prim.Native.Nat.{ℕ, zero, suc, ◌+◌, ◌-◌, ◌*◌, ◌≤◌, ◌<◌}
use native.Mathlib.Nat.{le_refl, le_trans, le_dest, add-zero, add-suc}
use native.Mathlib.Omega.{arith}
use lib.ListN.{length, get_or, replicate, length-replicate}
use Rattle.whole.specs.Sums.{sum_of}
use Rattle.whole.proofs.Sums.{sum_list, sum_le, sum_noughts}
use Rattle.remainder.proofs.Shares.{places}
use Rattle.average.specs.Rule.{give_out, vouchers_of}
use Rattle.average.specs.Wording.{Balanced}
use Rattle.average.proofs.Balanced.{given_length, given_sum, next_not_less}
use Rattle.average.proofs.Wording.{vouchers_balanced}

-- as many holdings as weights
pub holders : (n : ℕ) (ws : List ℕ) → length (vouchers_of n ws) ≡ length ws
unfolding vouchers_of
holders n ws = given_length n ws (replicate (length ws) 0) ∙ length-replicate (length ws) 0

module _ (ws : List ℕ) (weighs : 1 ≤ sum_of ws) where
  -- "All vouchers are given out."
  pub all_given : (n : ℕ) → sum_of (vouchers_of n ws) ≡ n
  unfolding vouchers_of
  all_given n = omega (arith, given_sum ws (places ws weighs) n (replicate (length ws) 0) (length-replicate (length ws) 0), sum_noughts (length ws))

  -- "For any two partners, the first holding at least one, the first's weight / held is not less than the second's weight / (held + 1)."
  pub first_not_less : (n i j : ℕ) → i < length ws → j < length ws → 1 ≤ get_or (vouchers_of n ws) i 0
      → get_or ws j 0 * get_or (vouchers_of n ws) i 0 ≤ get_or ws i 0 * (get_or (vouchers_of n ws) j 0 + 1)
  first_not_less n i j l m held = ((vouchers_balanced ws (places ws weighs) n).kept i j l m held).least

  -- "A larger number of vouchers never lowers anyone's holding."
  with_more : (n more i : ℕ) → get_or (vouchers_of n ws) i 0 ≤ get_or (vouchers_of (n + more) ws) i 0
  unfolding vouchers_of give_out
  with_more n zero i = rw (add-zero n) (le_refl _)
  with_more n (suc more) i =
      rw (add-suc n more)
      (le_trans (with_more n more i)
      (next_not_less ws (places ws weighs) (vouchers_of (n + more) ws) (vouchers_balanced ws (places ws weighs) (n + more)) i))

  pub never_lowers : (n larger i : ℕ) → n ≤ larger → get_or (vouchers_of n ws) i 0 ≤ get_or (vouchers_of larger ws) i 0
  never_lowers n larger i least = let rest : (k : ℕ) × (n + k ≡ larger) = le_dest least in rw (← rest.1) (with_more n rest.0 i)

  -- "weight 0 never gets one": else every weight would be 0, and their sum
  pub nothing_for_nothing : (n i : ℕ) → i < length ws → get_or ws i 0 ≡ 0 → get_or (vouchers_of n ws) i 0 ≡ 0
  nothing_for_nothing n i l none = go (get_or (vouchers_of n ws) i 0) refl
    where
      go : (held : ℕ) → get_or (vouchers_of n ws) i 0 ≡ held → held ≡ 0
      go zero e = refl
      go (suc k) e =
          let each : (j : ℕ) → j < length ws → get_or ws j 0 * suc k ≤ get_or ws j 0 * 0 =
          λ j m. omega (arith, rw (e, none) at (first_not_less n i j l m (omega arith))) in
          let sums = sum_le (λ j. get_or ws j 0) (λ j. get_or ws j 0) (suc k) 0 (length ws) each in
          let all : sum_of ws * suc k ≤ sum_of ws * 0 = rw (sum_list ws (length ws) refl) at sums in absurd (omega arith)
