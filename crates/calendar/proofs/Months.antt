-- The months of a year: their lengths, and the days of the first so many of them, which grow with the months and make 365 days or, in
-- a leap year, 366. Assumes nothing.
use mathlib.Core.Path.{◌≡◌, refl, sym, ap₂}
use mathlib.Core.Bool.{Bool, true, false, cond, ◌&&◌, ◌||◌}
use mathlib.Core.Logic.{◌⊎◌, inl, inr}
use Prim.Native.Nat.{ℕ, zero, suc, ◌+◌, ◌-◌, ◌≤◌}
use native.Mathlib.Decide.{ℕ_discrete}
use native.Mathlib.Numerals.{unary_clauses}
use native.Mathlib.Omega.{arith}
use lib.Dec.{leb, eqb}
use borrow.Author.Tests.{ne_eqb, eqb-true, leb-true}
use Rattle.calendar.specs.Calendar.{leap, month_length, days_of_months}
use Rattle.calendar.proofs.Numbers.{both, each_at, grows}

-- the four months of 30 days
abbrev ThirtyDays : ℕ → Type 0
ThirtyDays m = (m ≡ 4) ⊎ ((m ≡ 6) ⊎ ((m ≡ 9) ⊎ (m ≡ 11)))

pub short_month : (year m : ℕ) → ThirtyDays m → 30 ≡ month_length year m
unfolding month_length
short_month year m (inl e) = rw e
short_month year m (inr (inl e)) = rw e
short_month year m (inr (inr (inl e))) = rw e
short_month year m (inr (inr (inr e))) = rw e

-- one test over the months, which leaves February out: its length hangs on the year
module _ (year m : ℕ) (first : 1 ≤ m) (last : m ≤ 12) where
  pub long_month : (m ≡ 2 → ⊥) → (ThirtyDays m → ⊥) → 31 ≡ month_length year m
  unfolding month_length
  long_month february short =
      sym
      (eqb-true (month_length year m) 31
      (simp (
        ne_eqb m 0 (omega arith),
        ne_eqb m 2 february,
        ne_eqb m 4 (λ e. short (inl e)),
        ne_eqb m 6 (λ e. short (inr (inl e))),
        ne_eqb m 9 (λ e. short (inr (inr (inl e)))),
        ne_eqb m 11 (λ e. short (inr (inr (inr e)))),
      )
      at (each_at (λ k. eqb k 0 || eqb k 2 || eqb k 4 || eqb k 6 || eqb k 9 || eqb k 11 || eqb (month_length year k) 31) 13 refl m (omega arith))))

  month_within : (28 ≤ month_length year m) × (month_length year m ≤ 31)
  unfolding month_length
  month_within = at (ℕ_discrete m 2)
    where
      february : (b : Bool) → (28 ≤ cond b 29 28) × (cond b 29 28 ≤ 31)
      february true = omega arith
      february false = omega arith

      at : Dec (m ≡ 2) → (28 ≤ month_length year m) × (month_length year m ≤ 31)
      at (yes e) = rw e (february (leap year))
      at (no f) =
          let tests =
          both _ _
          (simp (ne_eqb m 0 (omega arith), ne_eqb m 2 f)
          at (each_at (λ k. eqb k 0 || eqb k 2 || (leb 28 (month_length year k) && leb (month_length year k) 31)) 13 refl m (omega arith))) in
          (leb-true 28 (month_length year m) tests.0, leb-true (month_length year m) 31 tests.1)

  pub days_28 : 28 ≤ month_length year m
  days_28 = month_within.0

  pub days_31 : month_length year m ≤ 31
  days_31 = month_within.1

  pub some_day : 1 ≤ month_length year m
  some_day = omega (arith, days_28)

pub no_months : (year : ℕ) → days_of_months year 0 ≡ 0
unfolding days_of_months
no_months year = refl

-- a month adds its length
pub one_month : (year m : ℕ) → 1 ≤ m → days_of_months year m ≡ days_of_months year (m - 1) + month_length year m
unfolding days_of_months
one_month year zero h = absurd (omega arith)
one_month year (suc m) h = simp unary_clauses

pub months_rise : (year a b : ℕ) → a ≤ b → days_of_months year a ≤ days_of_months year b
unfolding days_of_months
months_rise year = grows (days_of_months year) (λ m. omega arith)

pub year_length : (year : ℕ) → days_of_months year 12 ≡ 365 + cond (leap year) 1 0
unfolding days_of_months month_length
year_length year = at (leap year)
  where
    at : (b : Bool) → 0 + 31 + cond b 29 28 + 31 + 30 + 31 + 30 + 31 + 31 + 30 + 31 + 30 + 31 ≡ 365 + cond b 1 0
    at true = refl
    at false = refl

pub year_within : (year : ℕ) → (365 ≤ days_of_months year 12) × (days_of_months year 12 ≤ 366)
year_within year = rw (year_length year) (at (leap year))
  where
    at : (b : Bool) → (365 ≤ 365 + cond b 1 0) × (365 + cond b 1 0 ≤ 366)
    at true = omega arith
    at false = omega arith

-- the days of the months behind February, by those of 1901, which is not leap
by_common : (year m : ℕ) → days_of_months year (suc (suc m)) ≡ days_of_months 1901 (suc (suc m)) + cond (leap year) 1 0
unfolding leap days_of_months month_length
by_common year zero = at (leap year)
  where
    at : (b : Bool) → 0 + 31 + cond b 29 28 ≡ 59 + cond b 1 0
    at true = refl
    at false = refl
by_common year (suc m) = both (days_of_months year (suc (suc m))) (days_of_months 1901 (suc (suc m))) (month_length 1901 (suc (suc (suc m)))) _ (by_common year m)
  where
    both : (a b length one : ℕ) → a ≡ b + one → a + length ≡ b + length + one
    both a b length one e = omega arith

pub behind_february : (year month : ℕ) → 3 ≤ month → days_of_months year (month - 1) ≡ days_of_months 1901 (month - 1) + cond (leap year) 1 0
behind_february year month h = let months : month - 1 ≡ suc (suc (month - 3)) = omega arith in rw months (by_common year (month - 3))

pub before_march : (year m : ℕ) → m ≤ 1 → days_of_months year m ≡ days_of_months 1901 m
unfolding days_of_months month_length
before_march year zero h = refl
before_march year (suc zero) h = refl
before_march year (suc (suc m)) h = absurd (omega arith)

-- a year that is not leap has the months of 1901
common_length : (year m : ℕ) → leap year ≡ false → month_length year m ≡ month_length 1901 m
unfolding leap month_length
common_length year m e = rw e

pub common_year : (year m : ℕ) → leap year ≡ false → days_of_months year m ≡ days_of_months 1901 m
unfolding days_of_months
common_year year zero e = refl
common_year year (suc m) e = ap₂ ◌+◌ (common_year year m e) (common_length year (suc m) e)
