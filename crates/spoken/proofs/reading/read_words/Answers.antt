-- After each turn one word more is heard. Assumes nothing.
use native.Mathlib.Omega.{arith}
use Rattle.spoken.proofs.Turns.{none_heard, word_places, one_heard, empty_word, line_heard}
use Rattle.spoken.proofs.reading.read_words.Goals as goal

pub loop-at-init : goal.loop-at-init
loop-at-init c = none_heard _ _ _ _ _ c.nothing_heard-heard.ensures

pub returns-then-end-word : goal.returns-then-end-word
returns-then-end-word c =
    let all = empty_word _ _ _ _ _ _ _ c.loop-at.invariant _ c.spoken_of.ensures _ c.word_from-word.ensures c.if-end-word.true in
    record { said = all.0; numbers = all.1 }

pub hear-step-requires : goal.hear-step-requires
hear-step-requires c = (word_places _ _ _ _ _ _ _ c.loop-at.invariant _ c.word_from-word.ensures (omega arith) (omega arith)).0

pub loop-at-smaller : goal.loop-at-smaller
loop-at-smaller c = omega (arith, word_places _ _ _ _ _ _ _ c.loop-at.invariant _ c.word_from-word.ensures (omega arith) (omega arith))

pub loop-at-preserved : goal.loop-at-preserved
loop-at-preserved c =
    one_heard _ _ _ _ _ _ _ c.loop-at.invariant _ _ _ c.word_from-word.ensures (omega arith) (omega arith) c.hear-step.ensures c.put_step.ensures

pub returns : goal.returns
returns c =
    let all = line_heard _ _ _ _ _ _ _ c.loop-at.invariant _ c.spoken_of-2.ensures c.loop-at-test.false in
    record { said = all.0; numbers = all.1 }
