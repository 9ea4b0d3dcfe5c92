-- Where the product fits one division has its parts; else the parts of a. Assumes nothing.
use mathlib.Core.Path.{sym, ◌∙◌}
use Rattle.division.proofs.Split.{narrow}
use Rattle.division.proofs.Limits.{limits}
use Rattle.division.proofs.Divides.{capped_divides, outside, divides_is}
use Rattle.division.proofs.parts.divide.Goals as goal

pub returns-then-not-are_within : goal.returns-then-not-are_within
returns-then-not-are_within c = outside c.args.a c.args.b c.args.d (sym c.are_within.ensures ∙ c.if-not-are_within.true)

pub by_word-whole-requires : goal.by_word-whole-requires
by_word-whole-requires c =
    let tests = narrow c.args.a c.args.b (sym c.is_narrow.ensures ∙ c.if-is_narrow.true) in
    let l = limits c.args.a c.args.b c.args.d (sym c.are_within.ensures ∙ c.if-not-are_within.false) in
    (tests.0, tests.1, l.2)

pub returns-then-is_narrow : goal.returns-then-is_narrow
returns-then-is_narrow c =
    let a = c.args in
    divides_is a.a a.b a.d _ _ (sym c.are_within.ensures ∙ c.if-not-are_within.false) (capped_divides a.a a.b a.d c.by_word-whole.ensures c.cap.ensures)

pub by_parts-requires : goal.by_parts-requires
by_parts-requires c =
    let l = limits c.args.a c.args.b c.args.d (sym c.are_within.ensures ∙ c.if-not-are_within.false) in
    (l.1, l.2, l.3)

pub returns : goal.returns
returns c =
    let a = c.args in
    divides_is a.a a.b a.d _ _ (sym c.are_within.ensures ∙ c.if-not-are_within.false) c.by_parts.ensures
