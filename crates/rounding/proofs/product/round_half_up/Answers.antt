-- A short product is one number, whose quotient is the leaf's; any other is divided by parts. Assumes nothing.
use mathlib.Core.Path.{sym, ◌∙◌}
use mathlib.Core.Bool.{false}
use native.Mathlib.Omega.{arith}
use Rattle.rounding.specs.declared.Rule.TheVariants.{HalfUp}
use Rattle.rounding.proofs.Short.{Within, short_within, short_is}
use Rattle.rounding.proofs.product.round_half_up.Goals as goal

pub overflow_mul-a : goal.overflow_mul-a
overflow_mul-a c =
    let known : Within c.args.a c.args.b c.args.d = let s = c in short_within s.args.a s.args.b s.args.d s.ranges.a.fits s.ranges.b.fits (sym c.is_short.ensures ∙ c.if-is_short.true) in
    record { fits = omega (arith, known.product) }

pub half_up-requires : goal.half_up-requires
half_up-requires c =
    let known : Within c.args.a c.args.b c.args.d = let s = c in short_within s.args.a s.args.b s.args.d s.ranges.a.fits s.ranges.b.fits (sym c.is_short.ensures ∙ c.if-is_short.true) in
    (known.product, known.some, known.divisor)

pub returns-then-is_short : goal.returns-then-is_short
returns-then-is_short c =
    let known : Within c.args.a c.args.b c.args.d = let s = c in short_within s.args.a s.args.b s.args.d s.ranges.a.fits s.ranges.b.fits (sym c.is_short.ensures ∙ c.if-is_short.true) in
    let a = c.args in
    c.half_up.ensures ∙ short_is HalfUp false a.a a.b a.d known
