-- A word that is empty or past the line is nothing; else its first byte tells whether a minus is to be passed. Assumes nothing.
use mathlib.Core.Path.{sym, ◌∙◌, ap}
use Rattle.lines.specs.Lines.{number_of}
use Rattle.lines.proofs.Scans.{outside, inside, none_there, with_minus, with_none}
use Rattle.lines.proofs.numbers.read_number.Goals as goal

pub returns-in_err-bytes : goal.returns-in_err-bytes
returns-in_err-bytes c = c.from_residual.ensures ∙ sym (outside c.args.line.now c.args.word c.in_err-bytes.ensures.lookup.0)

pub returns-in_err-first : goal.returns-in_err-first
returns-in_err-first c =
    let at = c.in_ok-bytes.ensures.lookup.0 in
    c.from_residual-in_err-first.ensures
    ∙ sym (inside c.args.line.now c.args.word at.0 at.1 ∙ ap number_of (sym at.2) ∙ none_there c.in_ok-bytes.bytes.now c.in_err-first.ensures.cases)

pub returns-then-first-eq-MINUS : goal.returns-then-first-eq-MINUS
returns-then-first-eq-MINUS c =
    let at = c.in_ok-bytes.ensures.lookup.0 in
    c.whole_of.ensures
    ∙ sym
    (inside c.args.line.now c.args.word at.0 at.1
    ∙ ap number_of (sym at.2)
    ∙ with_minus c.in_ok-bytes.bytes.now _ _ c.in_ok-first.ensures.cases.0 c.if-first-eq-MINUS.true)

pub returns-else-first-eq-MINUS : goal.returns-else-first-eq-MINUS
returns-else-first-eq-MINUS c =
    let at = c.in_ok-bytes.ensures.lookup.0 in
    c.whole_of-else-first-eq-MINUS.ensures
    ∙ sym
    (inside c.args.line.now c.args.word at.0 at.1
    ∙ ap number_of (sym at.2)
    ∙ with_none c.in_ok-bytes.bytes.now _ _ c.in_ok-first.ensures.cases.0 c.if-first-eq-MINUS.false)
