-- What a basis's number says: a number that is none's is row 6, and a basis that a number stands for has that number. Assumes nothing.
use Rattle.std.specs.Prelude.{Ok, Err}
use mathlib.Core.Path.{◌≡◌, refl, sym, ◌∙◌, ap}
use mathlib.Core.Bool.{true}
use Prim.Native.Nat.{ℕ, zero, suc}
use native.Mathlib.Omega.{arith}
use borrow.Author.Tests.{le-leb}
use Rattle.refusal.specs.declared.Refusal.{Refusal}
use Rattle.refusal.specs.declared.Refusal.TheVariants.{Rate}
use Rattle.refusal.specs.Number.{number_of as number_in_table, blamed_of}
use Rattle.refusal.specs.Rows.{refuses}
use Rattle.calendar.specs.declared.Basis.{Basis}
use Rattle.calendar.specs.declared.Basis.TheVariants.{Actual360, Actual365, American, European}
use Rattle.calendar.specs.declared.Date.{Date}
use Rattle.calendar.specs.DaysSaid.{unknown_basis, days_rows, days_said}
use Rattle.calendar.specs.Numbered.{number_of, numbered}

past_unknown : (n : ℕ) → unknown_basis (suc (suc (suc (suc n)))) ≡ true
past_unknown n = le-leb 4 (suc (suc (suc (suc n)))) (omega arith)

past : (n : ℕ) → numbered (suc (suc (suc (suc n)))) ≡ Err Rate
unfolding numbered
past n = rw (past_unknown n) refl

past_said : (n : ℕ) (start end : Date) → days_said (suc (suc (suc (suc n)))) start end ≡ refuses (number_in_table Rate) (blamed_of Rate)
unfolding days_rows days_said
past_said n start end = rw (past_unknown n) refl

pub no_basis : (n : ℕ) (start end : Date) (r : Refusal) → numbered n ≡ Err r → days_said n start end ≡ refuses (number_in_table r) (blamed_of r)
unfolding numbered days_rows days_said
no_basis zero start end r e = let z : ◌≡◌ {A = ℕ} 0 1 = cc in absurd (omega arith)
no_basis (suc zero) start end r e = let z : ◌≡◌ {A = ℕ} 0 1 = cc in absurd (omega arith)
no_basis (suc (suc zero)) start end r e = let z : ◌≡◌ {A = ℕ} 0 1 = cc in absurd (omega arith)
no_basis (suc (suc (suc zero))) start end r e = let z : ◌≡◌ {A = ℕ} 0 1 = cc in absurd (omega arith)
no_basis (suc (suc (suc (suc n)))) start end r e =
    let f : Err Rate ≡ Err r = sym (past n) ∙ e in
    let same : Rate ≡ r = cc in
    past_said n start end ∙ ap (λ (x : Refusal). refuses (number_in_table x) (blamed_of x)) same

pub own_number : (n : ℕ) (b : Basis) → numbered n ≡ Ok b → number_of b ≡ n
unfolding numbered
own_number zero b e = let same : b ≡ Actual360 = cc in ap number_of same
own_number (suc zero) b e = let same : b ≡ Actual365 = cc in ap number_of same
own_number (suc (suc zero)) b e = let same : b ≡ American = cc in ap number_of same
own_number (suc (suc (suc zero))) b e = let same : b ≡ European = cc in ap number_of same
own_number (suc (suc (suc (suc n)))) b e =
    let f : Err Rate ≡ Ok b = sym (past n) ∙ e in
    let z : ◌≡◌ {A = ℕ} 0 1 = cc in absurd (omega arith)
