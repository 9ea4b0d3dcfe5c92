-- Every basis but 2 and 3 counts actual days, every basis but 1 has a year of 360; each counts none between equal dates, and a year
-- is 360 to 365 days. Assumes nothing.
use mathlib.Core.Path.{◌≡◌, refl}
use mathlib.Core.List.{List, [], ◌∷◌}
use Prim.Native.Nat.{ℕ, zero, suc, ◌≤◌}
use native.Mathlib.Omega.{arith}
use lib.ListN.{get_or}
use Rattle.calendar.specs.declared.Date.{Date}
use Rattle.calendar.specs.DayCount.{actual, american, european, Basis, bases, basis_of}
use Rattle.calendar.proofs.ActualDays.{actual_same}
use Rattle.calendar.proofs.Thirty.{american_reads, european_reads, thirty_same}

pub counts_actual : (basis : ℕ) → (basis ≡ 2 → ⊥) → (basis ≡ 3 → ⊥) → (start end : Date) → (basis_of basis).count start end ≡ actual start end
counts_actual zero american european start end = refl
counts_actual (suc zero) american european start end = refl
counts_actual (suc (suc zero)) american european start end = absurd (american refl)
counts_actual (suc (suc (suc zero))) american european start end = absurd (european refl)
counts_actual (suc (suc (suc (suc n)))) american european start end = refl

pub year_360 : (basis : ℕ) → (basis ≡ 1 → ⊥) → (basis_of basis).year ≡ 360
year_360 zero other = refl
year_360 (suc zero) other = absurd (other refl)
year_360 (suc (suc zero)) other = refl
year_360 (suc (suc (suc zero))) other = refl
year_360 (suc (suc (suc (suc n)))) other = refl

-- what holds for each basis of a list and for the one that stands for every other number holds for the basis of any number
abbrev pub Each : (Basis → Type 0) → List Basis → Type 0
Each P [] = Unit {0}
Each P (b ∷ bs) = P b × Each P bs

at_any : (P : Basis → Type 0) (other : Basis) → P other → (bs : List Basis) → Each P bs → (n : ℕ) → P (get_or bs n other)
at_any P other h [] each n = h
at_any P other h (b ∷ bs) each zero = each.0
at_any P other h (b ∷ bs) each (suc n) = at_any P other h bs each.1 n

pub every_basis : (P : Basis → Type 0) → P (basis_of 0) → Each P bases → (basis : ℕ) → P (basis_of basis)
every_basis P h each = at_any P (basis_of 0) h bases each

-- "Equal dates count 0 days."
pub equal_dates : (basis : ℕ) (d : Date) → (basis_of basis).count d d ≡ 0
equal_dates basis d =
    every_basis (λ b. b.count d d ≡ 0) (actual_same d) (actual_same d, (actual_same d, (thirty_same american american_reads d, (thirty_same european european_reads d, tt)))) basis

pub year_within : (basis : ℕ) → (360 ≤ (basis_of basis).year) × ((basis_of basis).year ≤ 365)
year_within =
    every_basis (λ b. (360 ≤ b.year) × (b.year ≤ 365)) (omega arith) (omega arith, (omega arith, (omega arith, (omega arith, tt))))
