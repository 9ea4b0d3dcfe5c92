-- What passed the check is within the limits of the steps, and the amount's coefficient is its sign and its magnitude. Assumes nothing.
use Rattle.std.specs.Prelude.{Ok}
use mathlib.Core.Path.{◌≡◌, sym, ◌∙◌, ap, ap₂}
use Prim.Native.Nat.{ℕ, ◌≤◌}
use borrow.Author.Rules.{rules}
use borrow.Author.Tests.{eq-eqb, ne_eqb, ltb-false}
use lib.IntN.{ℤ}
use Rattle.refusal.specs.Rows.{Said, gives, check_of}
use Rattle.refusal.proofs.Check.{clear}
use Rattle.whole.specs.Whole.{negative, magnitude_of, signed_of}
use Rattle.whole.proofs.Laws.{sign_and_magnitude, read_back}
use Rattle.currency.specs.declared.Currency.{Currency}
use Rattle.currency.specs.Table.{last_currency}
use Rattle.amount.specs.declared.Amount.{Amount}
use Rattle.amount.specs.Amounts.{largest}
use Rattle.euro.specs.Steps.{most_decimals}
use Rattle.euro.specs.Conversion.{convert_rows, exchanged, converted}
use Rattle.euro.proofs.conversion.accepted.Goals as goal

-- what passed the check
within : (decimals scale m : ℕ) (from to : Currency) → check_of (convert_rows decimals scale m from to) ≡ Ok tt
    → (decimals ≤ most_decimals) × (from.0 ≤ last_currency) × (to.0 ≤ last_currency) × (m ≤ largest)
unfolding convert_rows
within decimals scale m from to e =
    let steps = (clear (convert_rows decimals scale m from to) e).1.1.1 in
    let none = steps.1 in (
      ltb-false most_decimals decimals steps.0,
      ltb-false last_currency from.0 none.1.0,
      ltb-false last_currency to.0 none.1.1.0,
      ltb-false largest m none.0,
    )

pub returns-then-from-to : goal.returns-then-from-to
unfolding converted
returns-then-from-to c =
    let made : ℤ → Said Amount = λ z. gives (record { currency = c.args.from; scale = c.args.scale; coefficient = z }) in
    let a = c.args in
    ap made (read_back a.coefficient c.ranges.coefficient.sfits) ∙ sym (rw (eq-eqb a.from.0 a.to.0 c.if-from-to.true))

pub exchange-requires : goal.exchange-requires
exchange-requires c =
    let a = c.args in
    let of_m : c.magnitude.result ≡ magnitude_of a.coefficient = search rules in
    let limits = within a.decimals a.scale (magnitude_of a.coefficient) a.from a.to c.requires in
    (limits.0, limits.1, limits.2, rw of_m limits.3, c.if-from-to.false)

pub returns : goal.returns
unfolding converted
returns c =
    let a = c.args in
    let of_sign : c.is_negative.result ≡ negative a.coefficient = search rules in
    let of_m : c.magnitude.result ≡ magnitude_of a.coefficient = search rules in
    c.exchange.ensures
    ∙ ap (exchanged a.decimals a.from a.to) (ap₂ signed_of of_sign of_m ∙ sign_and_magnitude a.coefficient)
    ∙ sym (rw (ne_eqb a.from.0 a.to.0 c.if-from-to.false))
