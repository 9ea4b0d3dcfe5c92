-- Each test is its row's. Assumes nothing.
use mathlib.Core.Path.{◌≡◌, sym, ◌∙◌, ap}
use mathlib.Core.Bool.{false}
use native.Mathlib.Omega.{arith}
use borrow.Author.Tests.{eq-eqb}
use lib.IntN.{ℤ}
use mir.Syntax.{w64}
use mir.Val.{to_z, of_z}
use Rattle.std.proofs.lemmas.Grind.{common_steps}
use Rattle.std.proofs.lemmas.Bool.Decides.{nat_tests}
use Rattle.refusal.specs.Rows.{gives}
use Rattle.whole.specs.Whole.{signed_of}
use Rattle.whole.proofs.Laws.{read_back, held_within}
use Rattle.text.specs.Read.{signed_zero, made_said}
use Rattle.text.proofs.Spelled.{largest_below}
use Rattle.text.proofs.Numbers.{over_said, made_said_lem}
use Rattle.text.proofs.reading.amount_of.Goals as goal

pub returns-then-negative : goal.returns-then-negative
unfolding made_said
returns-then-negative c = simp (eq-eqb c.args.m 0 (omega arith), c.if-negative.true)

pub returns-then-m-gt-L : goal.returns-then-m-gt-L
returns-then-m-gt-L c = let a = c.args in sym (over_said a.currency a.negative a.scale a.m c.if-m-gt-L.true)

pub returns : goal.returns
returns c = let a = c.args in
    let is : to_z w64 (of_z w64 c.signed.result) ≡ signed_of a.negative a.m =
    read_back c.signed.result c.signed.type_inv ∙ c.signed.ensures ∙ held_within a.negative a.m (omega (arith, largest_below, c.if-m-gt-L.false)) in
    let zero : signed_zero a.negative a.m ≡ false =
    grind (arith, common_steps, nat_tests) in
    ap (λ (z : ℤ). gives (record { currency = a.currency; scale = a.scale; coefficient = z })) is
    ∙ sym (made_said_lem a.currency a.negative a.scale a.m c.if-m-gt-L.false zero)
