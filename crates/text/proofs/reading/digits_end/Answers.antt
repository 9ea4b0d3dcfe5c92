-- The end of the digits is the same from every place that the loop came to: it passed only digits. Assumes nothing.
use mathlib.Core.Path.{◌≡◌, sym, ◌∙◌}
use native.Mathlib.Omega.{arith}
use Rattle.lines.specs.Lines.{is_digit}
use Rattle.lines.proofs.Spans.{on, ended, out}
use Rattle.text.proofs.reading.digits_end.Goals as goal

pub returns-then-not-is_ascii_digit : goal.returns-then-not-is_ascii_digit
returns-then-not-is_ascii_digit c =
    sym (c.loop-i.invariant.1 ∙ ended is_digit c.args.bytes.now c.loop-i.i c.loop-i-test.true (sym c.is_ascii_digit.ensures.value ∙ c.if-not-is_ascii_digit.true))

pub loop-i-preserved : goal.loop-i-preserved
loop-i-preserved c = (
  omega (arith, c.loop-i-test.true),
  c.loop-i.invariant.1 ∙ on is_digit c.args.bytes.now c.loop-i.i c.loop-i-test.true (sym c.is_ascii_digit.ensures.value ∙ c.if-not-is_ascii_digit.false),
)

pub returns : goal.returns
returns c =
    let at : c.max.result ≡ c.loop-i.i = omega (arith, c.max.ensures, c.loop-i.invariant.0, c.loop-i.auto.i, c.loop-i-test.false) in
    at ∙ sym (c.loop-i.invariant.1 ∙ out is_digit c.args.bytes.now c.loop-i.i c.loop-i-test.false)
