-- The totals by a row, place by place, in the program's own variables: after i places the row's number is halved i times, so that its last
-- bit is bit i. Assumes nothing.
use mathlib.Core.Path.{◌≡◌, refl, sym, ◌∙◌}
use mathlib.Core.List.{List}
use Prim.Native.Nat.{ℕ, ◌+◌, ◌*◌, ◌/◌, ◌%◌, ◌^◌, ◌≤◌, ◌<◌}
use native.Mathlib.Nat.{pow-zero, pow-suc, div-one, div-div-eq-div-mul, mod-lt, mul-le-mul}
use native.Mathlib.Numerals.{add-one}
use native.Mathlib.Omega.{arith}
use lib.ListN.{length, get_or, set}
use Rattle.whole.specs.Lists.{filled}
use Rattle.whole.proofs.Lists.{fill_none}
use Rattle.amount.specs.Amounts.{largest}
use Rattle.units.specs.Rule.{totals}
use Rattle.units.proofs.Added.{length_totals}
use Rattle.units.proofs.Mask.{mask_cycle}
use Rattle.book.specs.Books.{partners, weight_sum, zeros}
use Rattle.cycle.specs.Cycle.{Weighed, Cycled}
use Rattle.running.proofs.Fitting.{product}
use Rattle.running.proofs.Places.{fill_next, filled_whole}
use Rattle.cycle.proofs.Bounds.{some_weight, weight_within, total_within}
use Rattle.bulk.proofs.RowShare.{share_is, part_within}

-- 2 ^ 40
abbrev pub scale : ℕ
scale = 1099511627776

-- the first i totals, and what is left of the row
pub record Read (ws : List ℕ) (sum : ℕ) (table : List ℕ) (n bits : ℕ) (held : List ℕ) (i : ℕ) : Type 0 where
  pub left : bits ≡ get_or table (n % sum) 0 / 2 ^ i
  pub upto : i ≤ partners
  pub filled : held ≡ filled 0 (λ k. get_or (totals ws n) k 0) i zeros

module _ (ws : List ℕ) (sum : ℕ) (table : List ℕ) (n : ℕ) where
  pub read_start : Read ws sum table n (get_or table (n % sum) 0) zeros 0
  read_start = record {
    left = sym (rw pow-zero (div-one (get_or table (n % sum) 0)));
    upto = omega arith;
    filled = fill_none 0 (λ k. get_or (totals ws n) k 0) zeros;
  }

  module _ (w : Weighed ws sum) (long : length ws ≡ partners) (t : Cycled ws sum table) where
    pub left_within : n % sum < sum
    left_within = mod-lt n w.some

    pub row_within : n % sum < length table
    row_within = omega (arith, left_within, t.fits)

    -- what is left of n, times the scale's part
    pub share_within : n % sum * (scale / sum + 1) ≤ scale + weight_sum
    share_within = omega (arith, part_within scale sum w.some (n % sum) 0 (omega (arith, left_within)), w.most)

    module _ (bits : ℕ) (held : List ℕ) (i : ℕ) (r : Read ws sum table n bits held i) (b : i < partners) where
      pub product_within : n % sum * (scale / sum + 1) * get_or ws i 0 ≤ (scale + weight_sum) * weight_sum
      product_within = mul-le-mul share_within (weight_within ws sum w long i b)

      -- a place's share of what is left
      share : n % sum * (scale / sum + 1) * get_or ws i 0 / scale ≡ n % sum * get_or ws i 0 / sum
      share =
          let small : n % sum * get_or ws i 0 + 1 ≤ 100000001 =
          omega (arith, product (n % sum) (get_or ws i 0) (omega (arith, left_within, w.most)) (weight_within ws sum w long i b)) in
          share_is scale sum w.some (n % sum) (get_or ws i 0) (omega (arith, left_within)) (omega (arith, mul-le-mul small w.most))

      pub total_is : n / sum * get_or ws i 0 + n % sum * (scale / sum + 1) * get_or ws i 0 / scale + bits % 2 ≡ get_or (totals ws n) i 0
      total_is =
          rw (share, r.left, t.rows (n % sum) left_within, w.same)
          (omega (arith, mask_cycle ws (some_weight ws sum w long) n i (omega arith)))

      -- so a total fits where n does
      pub total_small : n ≤ largest → n / sum * get_or ws i 0 + n % sum * (scale / sum + 1) * get_or ws i 0 / scale + bits % 2 ≤ largest
      total_small h = omega (arith, total_is, total_within ws sum w long n i b)

      pub read_more : Read ws sum table n (bits / 2) (set held i (n / sum * get_or ws i 0 + n % sum * (scale / sum + 1) * get_or ws i 0 / scale + bits % 2)) (i + 1)
      read_more = record {
        left = rw (r.left, add-one, pow-suc) (div-div-eq-div-mul (get_or table (n % sum) 0) (2 ^ i) 2);
        upto = omega arith;
        filled = fill_next (λ k. get_or (totals ws n) k 0) zeros held i _ r.filled total_is;
      }

    pub read_end : (bits : ℕ) (held : List ℕ) (i : ℕ) → Read ws sum table n bits held i → partners ≤ i → held ≡ totals ws n
    read_end bits held i r end =
        r.filled ∙ filled_whole (λ k. get_or (totals ws n) k 0) zeros i (totals ws n) (omega (arith, r.upto)) (length_totals ws n ∙ long) (λ k b. refl)
