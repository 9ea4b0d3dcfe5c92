-- The factors are within their limits, so the leaf gives the rounded magnitude, which is at most twice the principal's and fits with its
-- sign. Assumes nothing.
use mathlib.Core.Path.{◌∙◌, ap}
use Prim.Native.Nat.{ℕ, ◌*◌}
use Rattle.whole.specs.Whole.{held_signed}
use Rattle.whole.proofs.Laws.{read_back}
use Rattle.rounding.specs.Product.{rounded_product}
use Rattle.calendar.specs.Numbered.{number_of}
use Rattle.interest.specs.Accrual.{accrued_to}
use Rattle.interest.proofs.Accrued.{leaf, held}
use Rattle.interest.proofs.accrual.accrued.Goals as goal

pub returns : goal.returns
unfolding accrued_to
returns c = let a = c.args in
    read_back c.signed.result c.signed.type_inv
    ∙ c.signed.ensures
    ∙ ap (held_signed a.negative)
    ((rw (c.from.ensures, c.from-2.ensures, c.from-whole.ensures) at c.round_product-rounded.ensures)
    ∙ ap (λ (x : ℕ). rounded_product a.rule a.negative a.m (a.rate * a.days) (10000 * x)) c.year.ensures
    ∙ leaf c.requires a.rule a.negative (number_of a.basis))
    ∙ held c.requires a.rule a.negative (number_of a.basis)
