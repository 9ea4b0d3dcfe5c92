-- A refused check leaves the output as it stood; what passed puts the signed shares in front. Assumes nothing.
use Rattle.std.specs.Prelude.{Result, Err, ⊤}
use Rattle.std.proofs.lemmas.Result.{err_from_is_err_and}
use mathlib.Core.Path.{◌≡◌, sym, ◌∙◌, ap}
use mathlib.Core.List.{List, ◌++◌}
use Prim.Native.Nat.{ℕ}
use native.Mathlib.Omega.{arith}
use borrow.Author.Rules.{rules}
use lib.ListN.{length}
use Rattle.amount.specs.declared.Amount.{Amount}
use Rattle.refusal.specs.declared.Refusal.{Refusal}
use Rattle.refusal.specs.Rows.{check_of, means_outcome}
use Rattle.whole.specs.Whole.{negative, magnitude_of}
use Rattle.amount.specs.Amounts.{amount_rows}
use Rattle.weights.specs.Weights.{list_rows}
use Rattle.weights.proofs.Lent.{lent_refused, lent_passed}
use Rattle.remainder.specs.Rule.{signed_shares}
use Rattle.remainder.proofs.Signs.{put_sign}
use Rattle.sharing.specs.Shared.{share_rows, shared_said}
use Rattle.sharing.proofs.Answered.{share_fits}
use Rattle.sharing.proofs.share.Goals as goal

-- The rows that were asked, of the amount's magnitude, are the amount's.
asked : (amount : Amount) (ws : List ℕ) (room m : ℕ) → m ≡ magnitude_of amount.coefficient → check_of (amount_rows amount.scale m amount.currency ++ list_rows ws room) ≡ check_of (share_rows amount ws room)
asked amount ws room m e = ap (λ (m : ℕ). check_of (amount_rows amount.scale m amount.currency ++ list_rows ws room)) e

pub spread-requires : goal.spread-requires
spread-requires c =
    let a = c.args in
    let of_m : c.magnitude-m.result ≡ magnitude_of a.amount.coefficient = search rules in
    let checked = c.check.ensures ∙ asked a.amount a.weights.now (length a.out.now) _ of_m in
    let fits = share_fits a.amount a.weights.now (length a.out.now) (sym checked ∙ c.in_ok-check.was) in record { m_bound = omega (arith, of_m, fits.0); allowed = fits.1 }

pub returns-in_err-check : goal.returns-in_err-check
unfolding shared_said
returns-in_err-check c =
    let a = c.args in
    let of_m : c.magnitude-m.result ≡ magnitude_of a.amount.coefficient = search rules in
    let checked = c.check.ensures ∙ asked a.amount a.weights.now (length a.out.now) _ of_m in
    let all = lent_refused (share_rows a.amount a.weights.now (length a.out.now)) (signed_shares a.amount.coefficient a.weights.now) a.out.now c.in_err-check.field-0.0
    (sym checked ∙ c.in_err-check.was) in
    let p = err_from_is_err_and c.from_residual.result c.from_residual.ensures.1 in
    record { said = ap (λ (o : Result ⊤ Refusal). means_outcome o (signed_shares a.amount.coefficient a.weights.now)) (p.1 ∙ ap Err p.2) ∙ all.0; places = all.1 }

pub returns : goal.returns
unfolding shared_said
returns c =
    let a = c.args in
    let of_m : c.magnitude-m.result ≡ magnitude_of a.amount.coefficient = search rules in
    let of_sign : c.is_negative.result ≡ negative a.amount.coefficient = search rules in
    let checked = c.check.ensures ∙ asked a.amount a.weights.now (length a.out.now) _ of_m in
    let all = lent_passed (share_rows a.amount a.weights.now (length a.out.now)) (signed_shares a.amount.coefficient a.weights.now) a.out.now
    c.spread.new.out
    (sym checked ∙ c.in_ok-check.was)
    (c.spread.ensures
    ∙ put_sign a.amount.coefficient a.weights.now a.out.now c.is_negative.result c.magnitude-m.result of_sign of_m) in record { said = all.0; places = all.1 }
