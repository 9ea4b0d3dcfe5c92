-- A refused check leaves the buffer as it stood; what passed is written where there is room. Assumes nothing.
use Rattle.std.specs.Prelude.{Result, ⊤}
use Rattle.std.proofs.lemmas.Result.{err_from_is_err_and}
use mathlib.Core.Path.{◌≡◌, sym, ◌∙◌, ap, ap₂, subst}
use mathlib.Core.Bool.{Bool}
use mathlib.Core.List.{List}
use Prim.Native.Nat.{ℕ}
use lib.IntN.{ℤ}
use lib.ListN.{length}
use mir.Syntax.{w64}
use mir.Val.{SFits, to_z, of_z}
use mir.ValLaws.{to_z-of_z}
use Rattle.refusal.specs.Rows.{Said, check_of}
use Rattle.amount.specs.declared.Amount.{Amount}
use Rattle.whole.specs.Whole.{negative, magnitude_of}
use Rattle.amount.specs.Amounts.{amount_rows}
use Rattle.text.specs.Written.{spelled, text_of, room_said, Writes}
use Rattle.text.proofs.Placed.{passed_said, refused_writes}
use borrow.Author.Rules.{rules}
use Rattle.refusal.specs.declared.Refusal.{Refusal}
use Rattle.text.proofs.writing.write.Goals as goal

-- the sign and the magnitude that were asked for are the coefficient's
module _ (z : ℤ) (held : SFits w64 z) where
  sign_is : (s : Bool) → s ≡ negative (to_z w64 (of_z w64 z)) → s ≡ negative z
  sign_is s e = e ∙ ap negative (to_z-of_z w64 z held)

  magnitude_is : (m : ℕ) → m ≡ magnitude_of (to_z w64 (of_z w64 z)) → m ≡ magnitude_of z
  magnitude_is m e = e ∙ ap magnitude_of (to_z-of_z w64 z held)

-- and so is what the check answered
checked
    : (a : Amount) (m : ℕ) (r : Result ⊤ Refusal) → m ≡ magnitude_of a.coefficient → r ≡ check_of (amount_rows a.scale m a.currency)
    → check_of (amount_rows a.scale (magnitude_of a.coefficient) a.currency) ≡ r
checked a m r e f = sym (f ∙ ap (λ (k : ℕ). check_of (amount_rows a.scale k a.currency)) e)

pub returns-in_err-check_one : goal.returns-in_err-check_one
returns-in_err-check_one c =
    let a = c.args.amount in
    let m = magnitude_is a.coefficient (search rules) _ c.magnitude-m.ensures in
    let p = err_from_is_err_and c.from_residual.result c.from_residual.ensures.1 in
    rw (p.1, p.2)
    (refused_writes a c.args.out.now c.in_err-check_one.field-0.0 (checked a _ _ m c.check_one.ensures ∙ c.in_err-check_one.was))

pub returns : goal.returns
returns c =
    let a = c.args.amount in
    let out = c.args.out.now in
    let w = c.write_text in
    let s = sign_is a.coefficient (search rules) _ c.is_negative-negative.ensures in
    let m = magnitude_is a.coefficient (search rules) _ c.magnitude-m.ensures in
    let same : spelled c.is_negative-negative.result c.magnitude-m.result a.scale ≡ text_of a = ap₂ (λ (s : Bool) (m : ℕ). spelled s m a.scale) s m in
    subst (λ (said : Said ℕ). Writes (text_of a) said out w.result w.new.out)
    (sym (passed_said a out (checked a _ _ m c.check_one.ensures ∙ c.in_ok-check_one.was)))
    (subst (λ (text : List ℕ). Writes text (room_said text (length out)) out w.result w.new.out) same w.ensures)
