-- Each call of the closure gives the sum at its place, and an i64 holds it. Assumes nothing.
use mathlib.Core.Path.{◌≡◌, sym, ap, ◌∙◌}
use mathlib.Core.Bool.{false}
use mathlib.Core.List.{List}
use Prim.Native.Nat.{ℕ, ◌+◌, ◌<◌}
use native.Mathlib.Omega.{arith}
use borrow.Author.Rules.{rules}
use borrow.Author.Tests.{tests}
use lib.IntN.{ℤ, pos}
use lib.ListN.{length, get_or}
use Rattle.whole.specs.Whole.{magnitude_of, held_signed}
use Rattle.whole.specs.Lists.{filled}
use Rattle.whole.proofs.Laws.{held_within}
use Rattle.whole.proofs.Lists.{filled_all}
use Rattle.book.specs.Checks.{added_by}
use Rattle.book.proofs.Made.{made_at}
use Rattle.book.proofs.cards.grown.Goals as goal

-- the sum at a place
abbrev added : List ℤ → List ℕ → ℕ → ℤ
added zs ts i = pos (magnitude_of (get_or zs i (pos 0)) + get_or ts i 0)

pub returns : goal.returns
unfolding added_by
returns c =
    let a = c.args in
    let long : length c.args.settled ≡ 16 = search rules in
    let made : (k : ℕ) → k < 16 → (d : ℤ) → get_or c.from_fn.result k d ≡ added c.args.settled c.args.totals k =
    made_at _ _ (added c.args.settled c.args.totals) (λ i y q k.
    let sum = magnitude_of (get_or c.args.settled i (pos 0)) + get_or c.args.totals i 0 in
    let held : y ≡ held_signed false (magnitude_of (get_or c.args.settled i (pos 0)) + get_or c.args.totals i 0) = search (rules, tests) in
    (search (rules, tests), held ∙ held_within false sum (omega (arith, c.requires i)))) c.from_fn.result 16 c.from_fn.ensures.items in
    sym (ap (λ (n : ℕ). filled 0 (added a.settled a.totals) n a.settled) (sym long)
    ∙ filled_all (added a.settled a.totals) a.settled (pos 0) c.from_fn.result (c.from_fn.ensures.items.long ∙ sym long)
    (λ k below. sym (made k (omega arith) (pos 0))))
