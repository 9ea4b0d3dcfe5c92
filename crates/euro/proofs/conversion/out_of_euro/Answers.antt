-- A euro amount is its own number in euro, within L, and an old unit's is the step's, by its rate. Assumes nothing.
use mathlib.Core.Path.{sym, ◌∙◌, ap}
use mathlib.Core.Bool.{false}
use native.Mathlib.Omega.{arith}
use borrow.Author.Tests.{eq-eqb, ne_eqb}
use Rattle.whole.proofs.Laws.{magnitude_signed}
use Rattle.rounding.specs.declared.Rule.TheVariants.{HalfUp}
use Rattle.rounding.specs.Product.{capped, rounded_product}
use Rattle.rounding.proofs.Capped.{capped_is}
use Rattle.currency.specs.Names.{EUR}
use Rattle.currency.specs.Table.{line_of}
use Rattle.currency.proofs.Tables.{in_table}
use Rattle.euro.specs.declared.conversion.Rate.{Rate}
use Rattle.euro.proofs.Magnitudes.{from_euro_is}
use Rattle.euro.proofs.conversion.out_of_euro.Goals as goal

pub returns-then-to-eq-EURO : goal.returns-then-to-eq-EURO
returns-then-to-eq-EURO c negative = let a = c.args in
    sym
    (rw (eq-eqb a.to.0 EUR.0 c.if-to-eq-EURO.true)
    (ap capped (magnitude_signed negative a.m) ∙ capped_is a.m (omega (arith, c.requires.2))))

pub returns : goal.returns
returns c negative = let a = c.args in
    rw (ne_eqb a.to.0 EUR.0 c.if-to-eq-EURO.false)
    (c.round_half_up.ensures
    ∙ ap (λ (x : Rate). rounded_product HalfUp false a.m x.unit x.parts) c.rate_of-rate.ensures
    ∙ from_euro_is (line_of a.to) (in_table a.to c.requires.0) a.decimals c.requires.1 negative a.m c.requires.2)
