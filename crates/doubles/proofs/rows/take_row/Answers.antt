-- A refused mode and a refused check are the rows that they name; behind them the columns are taken by their bits, which are the doubles'. Assumes nothing.
use Rattle.std.specs.Prelude.{Ok}
use Rattle.std.proofs.lemmas.Result.{err_from_is_err_and}
use mathlib.Core.Path.{◌≡◌, sym, ◌∙◌, ap, ap₂}
use Prim.Native.Nat.{ℕ}
use borrow.Author.Rules.{rules}
use borrow.Author.Tests.{ltb-false}
use lib.Dec.{T}
use lib.Ieee.{Float, binary64, fits, to_bits, of_bits}
use lib.Ieee.Bits.{of_bits-to_bits}
use Rattle.refusal.proofs.Check.{passed, refused, clear}
use Rattle.rounding.specs.declared.Rule.{Rule}
use Rattle.rounding.specs.Modes.{rule_of, choice_of}
use Rattle.rounding.proofs.Chosen.{mode_refused, mode_chosen, rule_chosen}
use Rattle.doubles.specs.Doubles.{last_scale, given_rows, made_said, taken_said}
use Rattle.doubles.proofs.rows.take_row.Goals as goal

-- the bits of a column are its double's
own_bits : (x : Float) (bits : ℕ) → T (fits binary64 x) → bits ≡ to_bits binary64 x → of_bits binary64 bits ≡ x
own_bits x bits holds e = ap (of_bits binary64) e ∙ of_bits-to_bits binary64 x holds

pub made-requires : goal.made-requires
unfolding given_rows
made-requires c =
    let a = c.args in
    ltb-false last_scale a.scale (clear (given_rows a.scale a.currency) (sym c.check_given.ensures ∙ c.in_ok-check_given.was)).0

pub returns-in_err-rule : goal.returns-in_err-rule
unfolding taken_said
returns-in_err-rule c =
    let a = c.args in
    let p = err_from_is_err_and c.from_residual.result c.from_residual.ensures.1 in
    rw (p.1, p.2)
    (sym
    (mode_refused (made_said (rule_of a.mode) a.currency a.scale a.given.net a.given.tax) (given_rows a.scale a.currency) a.mode
    c.in_err-rule.field-0.0 (sym c.try_from.ensures ∙ c.in_err-rule.was)))

pub returns-in_err-check_given : goal.returns-in_err-check_given
unfolding taken_said
returns-in_err-check_given c =
    let chosen : choice_of c.args.mode ≡ Ok c.in_ok-rule.rule = sym c.try_from.ensures ∙ c.in_ok-rule.was in
    let a = c.args in
    let value = made_said (rule_of a.mode) a.currency a.scale a.given.net a.given.tax in
    let f = c.from_residual-in_err-check_given in
    let p = err_from_is_err_and f.result f.ensures.1 in
    rw (p.1, p.2)
    (sym
    (mode_chosen value (given_rows a.scale a.currency) a.mode c.in_ok-rule.rule chosen
    ∙ refused value (given_rows a.scale a.currency) c.in_err-check_given.field-0.0 (sym c.check_given.ensures ∙ c.in_err-check_given.was)))

pub returns : goal.returns
unfolding taken_said
returns c =
    let chosen : choice_of c.args.mode ≡ Ok c.in_ok-rule.rule = sym c.try_from.ensures ∙ c.in_ok-rule.was in
    let a = c.args in
    let net : T (fits binary64 a.given.net) = search rules in
    let tax : T (fits binary64 a.given.tax) = search rules in
    let value = made_said (rule_of a.mode) a.currency a.scale a.given.net a.given.tax in
    let rule = c.in_ok-rule.rule in
    c.made.ensures
    ∙ ap₂ (made_said rule a.currency a.scale) (own_bits a.given.net c.bits_of.result net c.bits_of.ensures)
    (own_bits a.given.tax c.bits_of-2.result tax c.bits_of-2.ensures)
    ∙ ap (λ (x : Rule). made_said x a.currency a.scale a.given.net a.given.tax) (sym (rule_chosen a.mode rule chosen))
    ∙ sym
    (mode_chosen value (given_rows a.scale a.currency) a.mode rule chosen
    ∙ passed value (given_rows a.scale a.currency) (sym c.check_given.ensures ∙ c.in_ok-check_given.was))
