-- A record is bad by its head, by its coefficient, or by what stands behind it. Assumes nothing.
use Rattle.std.proofs.Common.{ℕ, ◌∙◌, sym, ap}
use Rattle.whole.specs.Whole.{magnitude_of}
use Rattle.amount.specs.Amounts.{over_l}
use Rattle.statement.specs.Bytes.{from_word}
use Rattle.statement.specs.Parts.{bad_head}
use Rattle.statement.proofs.Heads.{bad_by_head, bad_by_word, bad_by_code}
use Rattle.statement.proofs.looking.bad_record.Goals as goal

pub returns-then-bad_head : goal.returns-then-bad_head
returns-then-bad_head c =
    let a = c.args in
    let head = c.bad_head.ensures ∙ ap (λ (n : ℕ). bad_head n a.agreed) c.eight_at.ensures in
    bad_by_head a.version a.bytes.now (λ i. (c.type_inv.bytes i).fits) a.agreed a.at (sym head ∙ c.if-bad_head.true)

pub returns-then-bad_word : goal.returns-then-bad_word
returns-then-bad_word c =
    let a = c.args in
    let head = c.bad_head.ensures ∙ ap (λ (n : ℕ). bad_head n a.agreed) c.eight_at.ensures in
    let word = c.bad_word.ensures ∙ ap (λ (n : ℕ). over_l (magnitude_of (from_word n))) c.eight_at-2.ensures in
    bad_by_word a.version a.bytes.now (λ i. (c.type_inv.bytes i).fits) a.agreed a.at (sym head ∙ c.if-bad_head.false) (sym word ∙ c.if-bad_word.true)

pub returns : goal.returns
returns c =
    let a = c.args in
    let head = c.bad_head.ensures ∙ ap (λ (n : ℕ). bad_head n a.agreed) c.eight_at.ensures in
    let word = c.bad_word.ensures ∙ ap (λ (n : ℕ). over_l (magnitude_of (from_word n))) c.eight_at-2.ensures in
    c.bad_code.ensures
    ∙ bad_by_code a.version a.bytes.now (λ i. (c.type_inv.bytes i).fits) a.agreed a.at (sym head ∙ c.if-bad_head.false) (sym word ∙ c.if-bad_word.false)
