-- Each test of the code is its row's: the day numbers are asked of dates that exist, the count of dates in order. Assumes nothing.
use mathlib.Core.Path.{◌≡◌, refl, sym, ◌∙◌, ap}
use mathlib.Core.Bool.{true, false}
use mathlib.Core.List.{[], ◌∷◌}
use native.Mathlib.Omega.{arith}
use Prim.Native.Nat.{◌<◌}
use lib.Dec.{ltb}
use borrow.Author.Tests.{lt-ltb, le-ltb}
use Rattle.refusal.specs.declared.Refusal.TheVariants.{Days}
use Rattle.refusal.specs.Rows.{gives, row, first_row}
use Rattle.calendar.specs.declared.Basis.{Basis}
use Rattle.calendar.specs.declared.Basis.TheVariants.{Actual360, Actual365, American, European}
use Rattle.calendar.specs.Numbered.{number_of}
use Rattle.calendar.specs.DayCount.{day_of}
use Rattle.calendar.specs.DaysSaid.{date_exists, unknown_basis, days_rows, days_said}
use Rattle.calendar.specs.Counting.{Numbered}
use Rattle.calendar.proofs.DaysRows.{by_count}
use Rattle.calendar.proofs.days.days_between.Goals as goal

-- a basis has a number of the table
known : (b : Basis) → number_of b < 4
known Actual360 = omega arith
known Actual365 = omega arith
known American = omega arith
known European = omega arith

basis_known : (b : Basis) → unknown_basis (number_of b) ≡ false
basis_known Actual360 = refl
basis_known Actual365 = refl
basis_known American = refl
basis_known European = refl

pub returns-then-not-date_exists : goal.returns-then-not-date_exists
unfolding days_rows days_said
returns-then-not-date_exists c =
    let basis_known = basis_known c.args.basis in
    simp (basis_known, sym c.date_exists.ensures ∙ c.if-not-date_exists.true)

pub returns-then-not-date_exists-2 : goal.returns-then-not-date_exists-2
unfolding days_rows days_said
returns-then-not-date_exists-2 c =
    let basis_known = basis_known c.args.basis in
    let start_exists : date_exists c.args.start ≡ true = sym c.date_exists.ensures ∙ c.if-not-date_exists.false in
    let second = c in
    simp
    (basis_known, start_exists, sym c.date_exists-2.ensures ∙ c.if-not-date_exists-2.true)

pub returns-then-to-from : goal.returns-then-to-from
unfolding days_rows days_said
returns-then-to-from c =
    let basis_known = basis_known c.args.basis in
    let start_exists : date_exists c.args.start ≡ true = sym c.date_exists.ensures ∙ c.if-not-date_exists.false in
    let end_exists : date_exists c.args.end ≡ true = sym c.date_exists-2.ensures ∙ c.if-not-date_exists-2.false in
    let third = c in
    let second = third in
    let a = second.args in
    simp (
      basis_known,
      start_exists,
      end_exists,
      lt-ltb (day_of a.end) (day_of a.start) (omega (arith, c.if-to-from.true, c.day_number-from.ensures, c.day_number-to.ensures)),
    )

pub returns-then-days-gt366 : goal.returns-then-days-gt366
returns-then-days-gt366 c =
    let call = c in
    let start_exists : date_exists c.args.start ≡ true = sym c.date_exists.ensures ∙ c.if-not-date_exists.false in
    let end_exists : date_exists c.args.end ≡ true = sym c.date_exists-2.ensures ∙ c.if-not-date_exists-2.false in
    let numbered : Numbered call.args.start call.args.end c.day_number-from.result c.day_number-to.result = let third = c in let from = c.day_number-from.ensures in let to = c.day_number-to.ensures in record { dates = record { first = start_exists; second = end_exists; order = omega (arith, c.if-to-from.false, from, to) }; first = from; second = to } in
    let at_last : let a = call.args in let n = c.count_of-days.result in days_said (number_of a.basis) a.start a.end ≡ first_row (row Days (ltb 366 n) ∷ []) (gives n) = let a = call.args in let first = c in by_count (number_of a.basis) a.start a.end (known a.basis) numbered.dates ∙ ap (λ n. first_row (row Days (ltb 366 n) ∷ []) (gives n)) (sym c.count_of-days.ensures) in
    sym (at_last ∙ simp (lt-ltb 366 c.count_of-days.result (omega (arith, c.if-days-gt366.true))))

pub returns : goal.returns
returns c =
    let call = c in
    let start_exists : date_exists c.args.start ≡ true = sym c.date_exists.ensures ∙ c.if-not-date_exists.false in
    let end_exists : date_exists c.args.end ≡ true = sym c.date_exists-2.ensures ∙ c.if-not-date_exists-2.false in
    let numbered : Numbered call.args.start call.args.end c.day_number-from.result c.day_number-to.result = let third = c in let from = c.day_number-from.ensures in let to = c.day_number-to.ensures in record { dates = record { first = start_exists; second = end_exists; order = omega (arith, c.if-to-from.false, from, to) }; first = from; second = to } in
    let at_last : let a = call.args in let n = c.count_of-days.result in days_said (number_of a.basis) a.start a.end ≡ first_row (row Days (ltb 366 n) ∷ []) (gives n) = let a = call.args in let first = c in by_count (number_of a.basis) a.start a.end (known a.basis) numbered.dates ∙ ap (λ n. first_row (row Days (ltb 366 n) ∷ []) (gives n)) (sym c.count_of-days.ensures) in
    sym (at_last ∙ simp (le-ltb 366 c.count_of-days.result (omega (arith, c.if-days-gt366.false))))
