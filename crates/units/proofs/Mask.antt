-- A table of one cycle gives every total: place i's total at n is its share rounded down and bit i of row n mod W. The bit is 0 or 1
-- because no total is more than one above its share rounded down, and the rows are made by one walk over the units. Assumes nothing.
use mathlib.Core.Path.{◌≡◌, refl, sym, ap}
use mathlib.Core.List.{List}
use Prim.Native.Nat.{ℕ, zero, suc, ◌+◌, ◌-◌, ◌*◌, ◌/◌, ◌%◌, ◌^◌, ◌≤◌, ◌<◌}
use native.Mathlib.Nat.{le_refl, add-zero, pow-suc, pow-succ', div-eq_of_lt, add-mul-div_left, mul-le-mul_left, mod-add-div', add-mul-div_right}
use native.Mathlib.Numerals.{add-one}
use native.Mathlib.Decide.{le_ind}
use native.Mathlib.Omega.{arith}
use lib.ListN.{length, get_or, replicate}
use Rattle.units.specs.Rule.{sum_of, taker_of, give, totals}
use Rattle.units.specs.Window.{lo}
use Rattle.units.specs.Mask.{bit_at, mask_of, mask}
use Rattle.units.proofs.Repeats.{by_cycles}
use Rattle.units.proofs.Straddle.{ahead_bit, ahead_end}

-- bit i stands at 2 ^ i of a number made of bits: below it is less than 2 ^ i, above it a multiple of 2 ^ (i + 1)
bit_out : (x b y i : ℕ) → x < 2 ^ i → b ≤ 1 → (x + 2 ^ i * (b + 2 * y)) / 2 ^ i % 2 ≡ b
bit_out x b y i h l =
    rw (add-mul-div_left x (b + 2 * y) {y = 2 ^ i} (omega arith), div-eq_of_lt h) (omega arith)

-- a bit more on top
bit_more : (z x b y c P Q D : ℕ) → z ≡ x + P * (b + 2 * y) → Q ≡ P * (2 * D) → z + Q * c ≡ x + P * (b + 2 * (y + D * c))
bit_more z x b y c P Q D e f = omega (arith, ap (λ (v : ℕ). v * c) f)

-- where a power of 2 is a multiple of another, so is the next
pow_more : (P D i : ℕ) → 2 ^ i ≡ P * (2 * D) → 2 ^ suc i ≡ P * (2 * (2 * D))
pow_more P D i e = rw pow-succ' (omega arith)

module _ (ws : List ℕ) (some : 1 ≤ sum_of ws) where
  -- a bit is 0 or 1
  pub bit_small : (n i : ℕ) → bit_at ws n i ≤ 1
  bit_small n i = ahead_bit ws some n n (le_refl n) i

  -- a place's total is its share rounded down and its bit
  pub bit_total : (n i : ℕ) → get_or (totals ws n) i 0 ≡ lo ws n i + bit_at ws n i
  bit_total = ahead_end ws some

  module _ (n : ℕ) where
    -- the bits of i places are below 2 ^ i
    pub mask_below : (i : ℕ) → mask_of ws (totals ws n) n i < 2 ^ i
    unfolding mask_of
    mask_below zero = omega arith
    mask_below (suc i) = rw pow-succ' (omega (arith, mask_below i, mul-le-mul_left (2 ^ i) (bit_small n i)))

    -- the bits of the first k places are those below i, bit i, and a multiple of 2 ^ (i + 1), as 2 ^ k is
    abbrev Split : (i k : ℕ) → Type 0
    Split i k = (y D : ℕ) × (mask_of ws (totals ws n) n k ≡ mask_of ws (totals ws n) n i + 2 ^ i * (bit_at ws n i + 2 * y)) × (2 ^ k ≡ 2 ^ i * (2 * D))

    split : (i m : ℕ) → suc i ≤ m → Split i m
    unfolding mask_of
    split i = le_ind (Split i)
        (0, 1, ap (λ (b : ℕ). mask_of ws (totals ws n) n i + 2 ^ i * b) (sym (add-zero (bit_at ws n i))), pow-suc 2 i)
        (λ k l s. (
          s.0 + s.1 * bit_at ws n k,
          2 * s.1,
          bit_more (mask_of ws (totals ws n) n k) (mask_of ws (totals ws n) n i) (bit_at ws n i) s.0 (bit_at ws n k) (2 ^ i) (2 ^ k) s.1 s.2 s.3,
          pow_more (2 ^ i) s.1 k s.3,
        ))

    -- bit i of row n
    pub mask_bit : (i : ℕ) → i < length ws → mask ws n / 2 ^ i % 2 ≡ bit_at ws n i
    unfolding mask
    mask_bit i h =
        let s = split i (length ws) h in
        rw s.2 (bit_out (mask_of ws (totals ws n) n i) (bit_at ws n i) s.0 i (mask_below i) (bit_small n i))

    -- a place's total by its row
    pub mask_total : (i : ℕ) → i < length ws → get_or (totals ws n) i 0 ≡ lo ws n i + mask ws n / 2 ^ i % 2
    mask_total i h = rw (mask_bit i h) (bit_total n i)

  -- at any n, by the row of n mod W
  pub mask_cycle : (n i : ℕ) → i < length ws
      → get_or (totals ws n) i 0 ≡ n / sum_of ws * get_or ws i 0 + lo ws (n % sum_of ws) i + mask ws (n % sum_of ws) / 2 ^ i % 2
  mask_cycle n i h = omega (arith, by_cycles ws some n i, mask_total (n % sum_of ws) i h)

  -- the share of n, rounded down, by whole cycles
  pub lo_cycle : (n i : ℕ) → lo ws n i ≡ n / sum_of ws * get_or ws i 0 + lo ws (n % sum_of ws) i
  lo_cycle n i =
      let W : ℕ = sum_of ws in
      let w : ℕ = get_or ws i 0 in
      let e : n * w ≡ n % W * w + n / W * w * W = omega (arith, ap (λ (x : ℕ). x * w) (mod-add-div' n W)) in
      omega (arith, ap (λ (x : ℕ). x / W) e, add-mul-div_right (n % W * w) (n / W * w) {z = W} some)

  -- so a total at any n is its share rounded down and a bit of the row of n mod W
  pub mask_share : (n i : ℕ) → i < length ws → get_or (totals ws n) i 0 ≡ lo ws n i + mask ws (n % sum_of ws) / 2 ^ i % 2
  mask_share n i h = omega (arith, mask_cycle n i h, lo_cycle n i)

-- the walk: no units, and the totals after one unit more, by the rule's own scan
pub walk_start : (ws : List ℕ) → totals ws 0 ≡ replicate (length ws) 0
unfolding totals
walk_start ws = refl

pub walk_step : (ws : List ℕ) (n : ℕ) → totals ws (n + 1) ≡ give (taker_of ws (totals ws n) (n + 1)) (totals ws n)
unfolding totals
walk_step ws n = rw add-one

-- a row from the totals, bit by bit
pub mask_start : (ws held : List ℕ) (n : ℕ) → mask_of ws held n 0 ≡ 0
unfolding mask_of
mask_start ws held n = refl

pub mask_step : (ws held : List ℕ) (n i : ℕ) → mask_of ws held n (i + 1) ≡ mask_of ws held n i + 2 ^ i * (get_or held i 0 - lo ws n i)
unfolding mask_of
mask_step ws held n i = rw add-one

pub mask_end : (ws : List ℕ) (n : ℕ) → mask ws n ≡ mask_of ws (totals ws n) n (length ws)
unfolding mask
mask_end ws n = refl
