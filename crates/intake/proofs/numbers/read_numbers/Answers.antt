-- After each turn one number more is taken. Assumes nothing.
use mathlib.Core.Path.{sym, ◌∙◌}
use native.Mathlib.Omega.{arith}
use Rattle.intake.proofs.Words.{none_taken, word_places, one_taken, empty_word, other_word, line_read}
use Rattle.intake.proofs.numbers.read_numbers.Goals as goal

pub loop-at-init : goal.loop-at-init
loop-at-init c = none_taken _ _ _

pub returns-then-end-word : goal.returns-then-end-word
returns-then-end-word c =
    let all = empty_word _ _ _ _ _ _ c.loop-at.invariant _ c.word_from-word.ensures c.if-end-word.true in
    record { given = all.0; numbers = all.1 }

pub returns-in_err-number : goal.returns-in_err-number
returns-in_err-number c =
    let told = sym c.read_number.ensures ∙ c.in_err-number.was in
    let all = other_word _ _ _ _ _ _ c.loop-at.invariant _ c.word_from-word.ensures (omega arith) told in
    record { given = c.from_residual.ensures ∙ all.0; numbers = all.1 }

pub loop-at-smaller : goal.loop-at-smaller
loop-at-smaller c = omega (arith, word_places _ _ _ _ _ _ c.loop-at.invariant _ c.word_from-word.ensures (omega arith) (omega arith))

pub loop-at-preserved : goal.loop-at-preserved
loop-at-preserved c =
    let told = sym c.read_number.ensures ∙ c.in_ok-number.was in
    rw c.put.ensures (one_taken _ _ _ _ _ _ c.loop-at.invariant _ c.word_from-word.ensures (omega arith) _ (omega arith) told)

pub returns : goal.returns
returns c =
    let all = line_read _ _ _ _ _ _ c.loop-at.invariant c.loop-at-test.false in
    record { given = all.0; numbers = all.1 }
