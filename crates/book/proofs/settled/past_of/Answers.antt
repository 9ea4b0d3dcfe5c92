-- Where none is over L each sum is below 2^63, and what the rows say is read off the sums. Assumes nothing.
use mathlib.Core.Path.{◌≡◌, sym, ap, ◌∙◌}
use Prim.Native.Nat.{ℕ, ◌^◌, ◌≤◌}
use native.Mathlib.Omega.{arith}
use borrow.Author.Rules.{rules}
use lib.IntN.{ℤ}
use mir.Syntax.{w64}
use mir.Val.{SFits, to_z, of_z}
use mir.ValLaws.{to_z-of_z}
use Rattle.book.specs.Settled.{up_of, down_of}
use Rattle.book.proofs.SettledTotals.{up_held, down_held, within}
use Rattle.book.proofs.SettledSaid.{said_full, said_past}
use Rattle.book.proofs.settled.past_of.Goals as goal

-- the parts of a net total, as the machine hands it on, are at most 2 ^ 63
lower_part : (r : ℕ) (n : ℤ) → SFits w64 n → r ≡ down_of (to_z w64 (of_z w64 n)) → (r ≡ down_of n) × (down_of n ≤ 2 ^ 63)
lower_part r n fits e = (e ∙ ap down_of (to_z-of_z w64 n fits), down_held n fits)

upper_part : (r : ℕ) (n : ℤ) → SFits w64 n → r ≡ up_of (to_z w64 (of_z w64 n)) → (r ≡ up_of n) × (up_of n ≤ 2 ^ 63)
upper_part r n fits e = (e ∙ ap up_of (to_z-of_z w64 n fits), up_held n fits)

pub overflow_add-full : goal.overflow_add-full
overflow_add-full c =
    let a = c.args in
    let limits = within a.settled 0 (search rules) (sym c.any_over.ensures ∙ c.if-any_over.false) in
    let lower = lower_part c.down.result a.net (search rules) c.down.ensures in
    omega (arith, c.sums_from-all.ensures.1, limits.1, lower.0, lower.1)

pub overflow_add-full-2 : goal.overflow_add-full-2
overflow_add-full-2 c =
    let a = c.args in
    let limits = within a.settled 0 (search rules) (sym c.any_over.ensures ∙ c.if-any_over.false) in
    let lower = lower_part c.down.result a.net (search rules) c.down.ensures in
    omega (arith, c.sums_from-all.ensures.1, limits.1, lower.0, lower.1)

pub overflow_add-full-3 : goal.overflow_add-full-3
overflow_add-full-3 c =
    let a = c.args in
    let limits = within a.settled 0 (search rules) (sym c.any_over.ensures ∙ c.if-any_over.false) in
    let upper = upper_part c.up.result a.net (search rules) c.up.ensures in
    omega (arith, c.sums_from-all.ensures.0, limits.0, upper.0, upper.1)

pub overflow_add-past : goal.overflow_add-past
overflow_add-past c =
    let a = c.args in
    let more = within a.settled a.count (search rules) (sym c.any_over.ensures ∙ c.if-any_over.false) in
    omega (arith, c.sums_from-behind.ensures.0, c.sums_from-behind.ensures.1, more.0, more.1)

pub returns-then-full : goal.returns-then-full
returns-then-full c =
    let a = c.args in
    let lower = lower_part c.down.result a.net (search rules) c.down.ensures in
    let upper = upper_part c.up.result a.net (search rules) c.up.ensures in
    said_full a.settled a.count a.net _ _ _ _ (sym c.any_over.ensures ∙ c.if-any_over.false) c.sums_from-all.ensures.0 c.sums_from-all.ensures.1
    upper.0 lower.0 (omega (arith, c.if-full.true))

pub returns : goal.returns
returns c =
    let a = c.args in
    let lower = lower_part c.down.result a.net (search rules) c.down.ensures in
    let upper = upper_part c.up.result a.net (search rules) c.up.ensures in
    said_past a.settled a.count a.net _ _ _ _ (sym c.any_over.ensures ∙ c.if-any_over.false) c.sums_from-all.ensures.0 c.sums_from-all.ensures.1
    upper.0 lower.0 _ _ c.sums_from-behind.ensures.0 c.sums_from-behind.ensures.1 (omega (arith, c.if-full.false))
