-- A start from below: each weight's share of any x, rounded down, is balanced, so that where these are not too many the vouchers left are given
-- out from there. Assumes nothing.
use mathlib.Core.Path.{◌≡◌, refl, sym, ◌∙◌}
use mathlib.Core.List.{List}
use Prim.Native.Nat.{ℕ, zero, suc, ◌+◌, ◌-◌, ◌*◌, ◌/◌, ◌≤◌, ◌<◌}
use native.Mathlib.Nat.{div-add-mod', mod-lt, div-mul-le_self, mul-le-mul_left, mul-le-mul_right, mul-lt-mul_of_pos_left, lt_of_mul-lt-mul_right}
use native.Mathlib.Omega.{arith}
use lib.ListN.{length, get_or, replicate, length-replicate}
use Rattle.whole.specs.Sums.{sum_of}
use Rattle.whole.proofs.Sums.{sum_noughts}
use Rattle.remainder.specs.Rule.{rounded_down, units_left}
use Rattle.remainder.proofs.Remainders.{rounded_length, rounded_at, units_complete}
use Rattle.average.specs.Rule.{give_out, vouchers_of}
use Rattle.average.specs.Wording.{Before, Balanced}
use Rattle.average.proofs.Balanced.{balanced_after, given_length, given_sum}
use Rattle.average.proofs.Wording.{vouchers_balanced, balanced_one}

-- x v / W and x w / W rounded down: the first's last voucher comes before the second's next one
before : (W x v w i j : ℕ) → 0 < W → 1 ≤ x * v / W → Before v (x * v / W) i w (x * w / W + 1) j
before W x v w i j some held =
    let a = x * v / W in
    let b = x * w / W + 1 in
    let below : a * W ≤ x * v = div-mul-le_self (x * v) W in
    let above : x * w < b * W = omega (arith, div-add-mod' (x * w) W, mod-lt (x * w) some) in
    let first : w * (a * W) ≤ w * (x * v) = mul-le-mul_left w below in
    let weighs : 0 < v = positive v (omega (arith, mul-le-mul_right W held)) in
    let next : v * (x * w) < v * (b * W) = mul-lt-mul_of_pos_left above weighs in
    let less : w * a < v * b = lt_of_mul-lt-mul_right W (omega arith) in
    record { least = omega arith; tie = λ e. absurd (omega arith) }
  where
    positive : (v : ℕ) → 0 < x * v → 0 < v
    positive zero h = absurd (omega arith)
    positive (suc v) h = omega arith

module _ (ws : List ℕ) (some : 0 < length ws) where
  -- from any balanced start that is not too much
  pub from_balanced : (m : ℕ) (start : List ℕ) → Balanced ws start → sum_of start ≤ m → give_out (m - sum_of start) ws start ≡ vouchers_of m ws
  unfolding vouchers_of
  from_balanced m start b fits =
      let none : List ℕ = replicate (length ws) 0 in
      let sums : sum_of (give_out (m - sum_of start) ws start) ≡ sum_of (give_out m ws none) =
      omega (
        arith,
        given_sum ws some (m - sum_of start) start b.partners,
        given_sum ws some m none (length-replicate (length ws) 0),
        sum_noughts (length ws),
      ) in
      balanced_one ws (give_out (m - sum_of start) ws start) (vouchers_of m ws) (balanced_after ws some (m - sum_of start) start b) (vouchers_balanced ws some m) sums

  module _ (weighs : 1 ≤ sum_of ws) where
    -- the shares of any x
    pub shares_balanced : (x : ℕ) → Balanced ws (rounded_down x ws)
    shares_balanced x =
        record {
          partners = rounded_length x ws;
          kept =
              λ i j l m held.
              rw (rounded_at x ws i, rounded_at x ws j)
              (before (sum_of ws) x (get_or ws i 0) (get_or ws j 0) i j weighs (rw (rounded_at x ws i) at held));
        }

    -- THE FAST FORM: from the shares of m rounded down, the vouchers that are left
    pub from_shares : (m : ℕ) → give_out (units_left m ws) ws (rounded_down m ws) ≡ vouchers_of m ws
    unfolding units_left
    from_shares m = from_balanced m (rounded_down m ws) (shares_balanced m) (omega (arith, units_complete m ws weighs))
