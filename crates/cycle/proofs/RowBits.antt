-- One row, bit by bit, in the program's own variables: a total is its share rounded down and a bit, so that the bit is 1 just where
-- n x w < a x W, and i bits are below 2 ^ i. Assumes nothing.
use mathlib.Core.Path.{◌≡◌, sym, ap, ap₂, ◌∙◌}
use mathlib.Core.List.{List}
use Prim.Native.Nat.{ℕ, ◌+◌, ◌-◌, ◌*◌, ◌%◌, ◌^◌, ◌≤◌, ◌<◌}
use native.Mathlib.Nat.{pow-le-pow_right, div-mul-le_self, le-div_iff_mul-le, lt_of_mul-lt-mul_right}
use native.Mathlib.Omega.{arith}
use lib.ListN.{length, get_or}
use Rattle.whole.specs.Sums.{sum_of}
use Rattle.units.specs.Rule.{totals}
use Rattle.units.specs.Window.{lo}
use Rattle.units.specs.Mask.{bit_at, mask_of, mask}
use Rattle.units.proofs.Mask.{bit_small, bit_total, mask_below, mask_start, mask_step, mask_end}
use Rattle.running.specs.Limits.{partners}
use Rattle.cycle.specs.Cycle.{Weighed}
use Rattle.cycle.proofs.Bounds.{some_weight}

-- the bits of the first i places
pub record Rowed (ws held : List ℕ) (n i bits : ℕ) : Type 0 where
  pub upto : i ≤ partners
  pub so_far : bits ≡ mask_of ws held n i

pub rowed_start : (ws held : List ℕ) (n : ℕ) → Rowed ws held n 0 0
rowed_start ws held n = record { upto = omega arith; so_far = sym (mask_start ws held n) }

small : {i : ℕ} → i < partners → 2 ^ i ≤ 32768
small {i} b = omega (arith, pow-le-pow_right {n = 2} (omega arith) {i = i} {j = 15} (omega arith))

-- bit i, as the program shifts it
shifted : {i : ℕ} → i < partners → 1 * 2 ^ i % 65536 ≡ 2 ^ i
shifted b = omega (arith, small b)

module _ {ws : List ℕ} {sum : ℕ} (w : Weighed ws sum) (long : length ws ≡ partners) (n : ℕ) {held : List ℕ} (units : held ≡ totals ws n) where
  some : 1 ≤ sum_of ws
  some = some_weight ws sum w long

  module _ (i : ℕ) where
    total : get_or held i 0 ≡ lo ws n i + bit_at ws n i
    total = rw units (bit_total ws some n i)

    pub bit_one : n * get_or ws i 0 < get_or held i 0 * sum → get_or held i 0 - lo ws n i ≡ 1
    bit_one h =
        let W : ℕ = sum_of ws in
        let above : lo ws n i * W < get_or held i 0 * W =
        omega (arith, div-mul-le_self (n * get_or ws i 0) W, ap (λ (x : ℕ). get_or held i 0 * x) w.same) in
        omega (arith, total, bit_small ws some n i, lt_of_mul-lt-mul_right W above)

    pub bit_none : get_or held i 0 * sum ≤ n * get_or ws i 0 → get_or held i 0 - lo ws n i ≡ 0
    bit_none h =
        let below : get_or held i 0 ≤ lo ws n i =
        (le-div_iff_mul-le some).1 (omega (arith, ap (λ (x : ℕ). get_or held i 0 * x) w.same)) in
        omega arith

  module _ {i bits : ℕ} (r : Rowed ws held n i bits) where
    -- i bits are below 2 ^ i
    bits_below : bits < 2 ^ i
    bits_below = rw (r.so_far, units) (mask_below ws some n i)

    pub room : i < partners → bits + 1 * 2 ^ i % 65536 < 65536
    room b = omega (arith, bits_below, small b)

    module _ (b : i < partners) where
      rowed_by : (bit : ℕ) → get_or held i 0 - lo ws n i ≡ bit → Rowed ws held n (i + 1) (bits + 2 ^ i * bit)
      rowed_by bit e = record { upto = omega arith; so_far = rw (mask_step ws held n i, r.so_far, e) }

      pub rowed_one : n * get_or ws i 0 < get_or held i 0 * sum → Rowed ws held n (i + 1) (bits + 1 * 2 ^ i % 65536)
      rowed_one h = let e : bits + 2 ^ i * 1 ≡ bits + 1 * 2 ^ i % 65536 = omega (arith, shifted b) in rw e at (rowed_by 1 (bit_one i h))

      pub rowed_none : get_or held i 0 * sum ≤ n * get_or ws i 0 → Rowed ws held n (i + 1) bits
      rowed_none h = let e : bits + 2 ^ i * 0 ≡ bits = omega arith in rw e at (rowed_by 0 (bit_none i h))

    -- after all places
    pub rowed_end : partners ≤ i → bits ≡ mask ws n
    rowed_end end =
        let e : i ≡ length ws = omega (arith, r.upto, long) in
        r.so_far ∙ ap₂ (λ (l : List ℕ) (k : ℕ). mask_of ws l n k) units e ∙ sym (mask_end ws n)
