-- Below 0 the word is 2^64 less the magnitude, which is at most 2^63; from 0 on it is the magnitude. Assumes nothing.
use mathlib.Core.Path.{◌≡◌, sym, ◌∙◌, ap}
use Prim.Native.Nat.{ℕ, ◌+◌, ◌-◌}
use mir.Syntax.{w64}
use mir.ValLaws.{to_z-of_z}
use Rattle.whole.specs.Whole.{negative, magnitude_of}
use Rattle.statement.proofs.Words.{within, word_negative, word_positive}
use Rattle.statement.proofs.numbers.word_of.Goals as goal

pub returns-then-is_negative : goal.returns-then-is_negative
returns-then-is_negative c =
    let sign : c.is_negative.result ≡ negative c.args.coefficient = c.is_negative.ensures ∙ ap negative (to_z-of_z w64 c.args.coefficient c.ranges.coefficient) in
    let asked : c.magnitude-m.result ≡ magnitude_of c.args.coefficient = c.magnitude-m.ensures ∙ ap magnitude_of (to_z-of_z w64 c.args.coefficient c.ranges.coefficient) in
    let z = c.args.coefficient in
    ap (λ (m : ℕ). 18446744073709551615 - m + 1) asked
    ∙ word_negative z (sym sign ∙ c.if-is_negative.true) (within z c.ranges.coefficient)

pub returns-else-is_negative : goal.returns-else-is_negative
returns-else-is_negative c =
    let sign : c.is_negative.result ≡ negative c.args.coefficient = c.is_negative.ensures ∙ ap negative (to_z-of_z w64 c.args.coefficient c.ranges.coefficient) in
    let asked : c.magnitude-m.result ≡ magnitude_of c.args.coefficient = c.magnitude-m.ensures ∙ ap magnitude_of (to_z-of_z w64 c.args.coefficient c.ranges.coefficient) in
    let z = c.args.coefficient in
    asked ∙ word_positive z (sym sign ∙ c.if-is_negative.false)
