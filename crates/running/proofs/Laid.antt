-- One place's units laid into slots, m from `first` on, in the program's own variables: q and r are the quotient and the remainder of
-- m x W by w, from one m to the next without a division, so that each unit has its slot. Assumes nothing.
use mathlib.Core.Path.{◌≡◌, refl, sym, ap, ◌∙◌}
use mathlib.Core.List.{List}
use Prim.Native.Nat.{ℕ, zero, suc, ◌+◌, ◌-◌, ◌*◌, ◌/◌, ◌%◌, ◌≤◌, ◌<◌}
use native.Mathlib.Nat.{sub_self, mod-lt, mul-le-mul_left, mul-le-mul_right, lt_of_mul-lt-mul_right}
use native.Mathlib.Omega.{arith}
use lib.ListN.{length, get_or, length-set}
use Rattle.whole.specs.Sums.{sum_of}
use Rattle.units.specs.Calendar.{Divided, bump, first_at, fill_place}
use Rattle.units.proofs.Quotient.{divide, quotient, divide_next, divide_carry}
use Rattle.units.proofs.Bounds.{bump_bound}
use Rattle.running.specs.Limits.{weight_sum}
use Rattle.running.specs.Running.{fill_by, Laying}
use Rattle.running.proofs.Fitting.{product}

module _ (weight sum u first : ℕ) (slots : List ℕ) where
  pub length_fill : (c : ℕ) → length (fill_by weight sum u first slots c) ≡ length slots
  unfolding fill_by
  length_fill zero = refl
  length_fill (suc c) = length-set (fill_by weight sum u first slots c) _ _ ∙ length_fill c

  fill_bound : (j c : ℕ) → get_or (fill_by weight sum u first slots c) j 0 ≤ get_or slots j 0 + c
  unfolding fill_by
  fill_bound j zero = omega arith
  fill_bound j (suc c) =
      omega (arith, fill_bound j c, bump_bound (fill_by weight sum u first slots c) ((first + c) * sum / weight - u) j)

  fill_step : (m q : ℕ) → first ≤ m → m * sum / weight ≡ q
      → fill_by weight sum u first slots (m + 1 - first) ≡ bump (fill_by weight sum u first slots (m - first)) (q - u)
  unfolding fill_by
  fill_step m q h e =
      let c : m + 1 - first ≡ suc (m - first) = omega arith in
      let d : first + (m - first) ≡ m = omega arith in
      rw (c, ← e) (ap (λ (x : ℕ). bump (fill_by weight sum u first slots (m - first)) (x * sum / weight - u)) d)

-- by a place's weight and first unit, the definition's own slots
pub fill_place_lem : (ws : List ℕ) (u i : ℕ) (slots : List ℕ) (c : ℕ) → fill_by (get_or ws i 0) (sum_of ws) u (first_at ws u i) slots c ≡ fill_place ws u i slots c
unfolding fill_by fill_place
fill_place_lem ws u i slots zero = refl
fill_place_lem ws u i slots (suc c) =
    ap (λ (l : List ℕ). bump l ((first_at ws u i + c) * sum_of ws / get_or ws i 0 - u)) (fill_place_lem ws u i slots c)

-- the loop after m units: the slots, and the quotient and the remainder of m x W
pub record Laid (weight sum u first full : ℕ) (slots : List ℕ) (m q r : ℕ) (held : List ℕ) : Type 0 where
  pub from : first ≤ m
  pub upto : m ≤ full
  pub divided : Divided (m * sum) weight q r
  pub laid : held ≡ fill_by weight sum u first slots (m - first)

pub length_laid : {weight sum u first full m q r : ℕ} {slots held : List ℕ} → Laid weight sum u first full slots m q r held → length held ≡ length slots
length_laid {weight} {sum} {u} {first} {full} {m} {q} {r} {slots} {held} l = ap length l.laid ∙ length_fill weight sum u first slots (m - first)

module _ {weight sum u first full : ℕ} {slots : List ℕ} (asked : Laying weight sum u first full slots) where
  pub laid_start : Laid weight sum u first full slots first (first * sum / weight) (first * sum % weight) slots
  unfolding fill_by
  laid_start = record { from = omega arith; upto = asked.units; divided = divide (first * sum) weight asked.weighs; laid = rw sub_self }

  full_most : full ≤ weight_sum
  full_most = omega (arith, asked.room 0)

  pub products : full * sum ≤ 100000000
  products = product full sum full_most asked.most

  pub first_product : first * sum ≤ 100000000
  first_product = omega (arith, products, mul-le-mul_right sum asked.units)

  -- a quotient of no more than full x W
  quotient_within : (m q r : ℕ) → m ≤ full → Divided (m * sum) weight q r → q ≤ 100000000
  quotient_within m q r h d = omega (arith, d.whole, products, mul-le-mul_right sum h, mul-le-mul_left q asked.weighs)

  module _ {m q r : ℕ} {held : List ℕ} (l : Laid weight sum u first full slots m q r held) (more : m < full) where
    -- the unit's slot is one of the window's
    pub slot_after : u ≤ q
    slot_after =
        let d = l.divided in
        let h : u * weight < suc q * weight = omega (arith, asked.after, mul-le-mul_right sum l.from, d.whole, d.small) in
        omega (arith, lt_of_mul-lt-mul_right weight h)

    pub slot_in : q - u < length held
    slot_in =
        let d = l.divided in
        let h : q * weight < (u + length slots) * weight =
        omega (arith, asked.fits, d.whole, asked.some, mul-le-mul_right {m = suc m} sum more) in
        omega (arith, lt_of_mul-lt-mul_right weight h, slot_after, ap length l.laid, length_fill weight sum u first slots (m - first))

    -- and has room
    pub slot_room : get_or held (q - u) 0 < weight_sum
    slot_room =
        omega (arith, ap (λ (x : List ℕ). get_or x (q - u) 0) l.laid, fill_bound weight sum u first slots (q - u) (m - first), asked.room (q - u), l.from)

    -- the next unit, with no carry and with one
    stored : bump held (q - u) ≡ fill_by weight sum u first slots (m + 1 - first)
    stored =
        ap (λ (x : List ℕ). bump x (q - u)) l.laid
        ∙ sym (fill_step weight sum u first slots m q l.from (quotient (m * sum) weight q r l.divided))

    pub next_unit : r < weight - sum % weight → Laid weight sum u first full slots (m + 1) (q + sum / weight) (r + sum % weight) (bump held (q - u))
    next_unit h = record {
      from = omega (arith, l.from);
      upto = omega arith;
      divided = divide_next sum weight m q r l.divided (omega arith);
      laid = stored;
    }

    pub carried_unit : weight - sum % weight ≤ r → Laid weight sum u first full slots (m + 1) (q + (sum / weight + 1)) (r - (weight - sum % weight)) (bump held (q - u))
    carried_unit h =
        let p : sum % weight < weight = mod-lt sum asked.weighs in
        let e : q + (sum / weight + 1) ≡ q + sum / weight + 1 = omega arith in
        let f : r - (weight - sum % weight) ≡ r + sum % weight - weight = omega arith in
        record {
          from = omega (arith, l.from);
          upto = omega arith;
          divided = rw (e, f) (divide_carry sum weight m q r l.divided (omega arith));
          laid = stored;
        }

    pub next_within : r < weight - sum % weight → q + sum / weight ≤ 100000000
    next_within h = quotient_within (m + 1) (q + sum / weight) (r + sum % weight) (omega arith) (next_unit h).divided

    pub carried_within : weight - sum % weight ≤ r → q + (sum / weight + 1) ≤ 100000000
    carried_within h =
        quotient_within (m + 1) (q + (sum / weight + 1)) (r - (weight - sum % weight)) (omega arith) (carried_unit h).divided

  pub laid_end : {m q r : ℕ} {held : List ℕ} → Laid weight sum u first full slots m q r held → full ≤ m → held ≡ fill_by weight sum u first slots (full - first)
  laid_end {m} {q} {r} {held} l h = let e : m ≡ full = omega (arith, l.upto) in l.laid ∙ ap (λ (k : ℕ). fill_by weight sum u first slots (k - first)) e
