-- A refused check is the row that it names; what passed is the moved coefficient, and row 13 is asked of it. Assumes nothing.
use mathlib.Core.Path.{◌≡◌, sym, ◌∙◌, ap}
use mathlib.Core.Bool.{cond}
use mathlib.Core.List.{List}
use Prim.Native.Nat.{ℕ, ◌-◌, ◌^◌}
use borrow.Author.Rules.{rules}
use lib.Dec.{leb}
use lib.IntN.{ℤ}
use mir.Syntax.{w64}
use mir.Val.{SFits}
use mir.ValLaws.{to_z-of_z}
use Rattle.refusal.specs.Rows.{Said, Row, check_of}
use Rattle.refusal.proofs.Check.{passed}
use Rattle.whole.specs.Whole.{magnitude_of}
use Rattle.whole.proofs.Laws.{read_back}
use Rattle.amount.specs.declared.Amount.{Amount}
use Rattle.rounding.specs.Leaf.{rounded}
use Rattle.amount.specs.Amounts.{limited, raised_to}
use Rattle.amount.specs.Raising.{nearer}
use Rattle.amount.specs.Rescaling.{rescale_rows, rescaled}
use Rattle.amount.proofs.Limits.{read_magnitude}
use Rattle.amount.proofs.Raised.{stands_limited, either_stands}
use Rattle.amount.proofs.rescale.by_rule.Goals as goal

-- the rows of an amount and a new scale
abbrev rows_at : Amount → ℕ → List Row
rows_at a t = rescale_rows a.scale t (magnitude_of a.coefficient) a.currency

-- what row 13 is asked of: the amount with a coefficient at the new scale
abbrev made : Amount → ℕ → ℤ → Amount
made a t z = record { currency = a.currency; scale = t; coefficient = z }

abbrev asked : Amount → ℕ → ℤ → Said Amount
asked a t z = limited z (made a t z)

pub returns : goal.returns
unfolding rescaled
returns c =
    let own : SFits w64 c.args.amount.coefficient = search rules in
    let told : let a = c.args in c.check.result ≡ check_of (rows_at a.amount a.scale) =
    let s = c in
    let a = s.args.amount in
    c.check.ensures
    ∙ ap (λ (m : ℕ). check_of (rescale_rows a.scale s.args.scale m a.currency))
    (read_magnitude a.coefficient c.magnitude-m.result own c.magnitude-m.ensures) in
    let e = c in
    let s = e in
    let a = s.args.amount in
    let t = s.args.scale in
    let m = c.moved in
    c.within.ensures
    ∙ ap (asked a t) (read_back m.result m.type_inv ∙ rw (to_z-of_z w64 a.coefficient own) at m.ensures)
    ∙ stands_limited (made a t) (cond (leb a.scale t) (nearer (raised_to t a)) (rounded s.args.rule a.coefficient (10 ^ (a.scale - t))))
    (rescaled s.args.rule t a)
    (either_stands (leb a.scale t) (raised_to t a) (rounded s.args.rule a.coefficient (10 ^ (a.scale - t))))
    ∙ sym (passed (asked a t (rescaled s.args.rule t a)) (rows_at a t) (sym told ∙ e.in_ok-check.was))
