-- A refused check leaves the output as it stood; what passed lends as many places of it as there are weights, and puts the vouchers there.
-- Assumes nothing.
use Rattle.std.specs.Prelude.{Result, Err, ⊤}
use Rattle.std.proofs.lemmas.Result.{err_from_is_err_and}
use mathlib.Core.Path.{◌≡◌, sym, ◌∙◌, ap}
use Rattle.refusal.specs.declared.Refusal.{Refusal}
use Rattle.refusal.specs.Rows.{means_outcome}
use mathlib.Core.List.{List, ◌++◌}
use Prim.Native.Nat.{ℕ}
use lib.ListN.{length, drop}
use lib.Seq.{length-take-le}
use Rattle.weights.proofs.Passed.{just_enough}
use Rattle.weights.proofs.Lent.{lent_refused, lent_passed}
use Rattle.average.specs.Rule.{vouchers_of}
use Rattle.average.proofs.Clauses.{holders}
use Rattle.vouchers.specs.Said.{voucher_rows, vouchers_said}
use Rattle.vouchers.proofs.Passed.{vouchers_fit}
use Rattle.vouchers.proofs.vouchers.Goals as goal

-- the vouchers in front of what stands
put : (count : ℕ) (ws front out : List ℕ) → front ≡ vouchers_of count ws
    → front ++ drop (length ws) out ≡ vouchers_of count ws ++ drop (length (vouchers_of count ws)) out
put count ws front out is = rw (is, holders count ws)

pub slice_bounds-give_all-end : goal.slice_bounds-give_all-end
slice_bounds-give_all-end c =
    let fit = vouchers_fit c.args.count c.args.weights.now (length c.args.out.now) (sym c.check.ensures ∙ c.in_ok-check.was) in
    fit.1.fits

pub slice_bounds-give_all-end-2 : goal.slice_bounds-give_all-end-2
slice_bounds-give_all-end-2 c =
    let fit = vouchers_fit c.args.count c.args.weights.now (length c.args.out.now) (sym c.check.ensures ∙ c.in_ok-check.was) in
    sym (length-take-le _ _ fit.1.fits)

pub give_all-requires : goal.give_all-requires
give_all-requires c =
    let fit = vouchers_fit c.args.count c.args.weights.now (length c.args.out.now) (sym c.check.ensures ∙ c.in_ok-check.was) in
    let a = c.args in
    let long = length-take-le (length a.weights.now) a.out.now fit.1.fits in record {
      count_le_most_vouchers = fit.0;
      allowed = just_enough a.weights.now (length a.out.now) _ fit.1 long;
      held_len = long;
    }

pub returns-in_err-check : goal.returns-in_err-check
unfolding vouchers_said
returns-in_err-check c = let a = c.args in
    let all = lent_refused (voucher_rows a.count a.weights.now (length a.out.now)) (vouchers_of a.count a.weights.now) a.out.now c.in_err-check.field-0.0
    (sym c.check.ensures ∙ c.in_err-check.was) in
    let p = err_from_is_err_and c.from_residual.result c.from_residual.ensures.1 in
    record { said = ap (λ (o : Result ⊤ Refusal). means_outcome o (vouchers_of a.count a.weights.now)) (p.1 ∙ ap Err p.2) ∙ all.0; places = all.1 }

pub returns : goal.returns
unfolding vouchers_said
returns c =
    let a = c.args in
    let all = lent_passed (voucher_rows a.count a.weights.now (length a.out.now)) (vouchers_of a.count a.weights.now) a.out.now _
    (sym c.check.ensures ∙ c.in_ok-check.was)
    (put a.count a.weights.now c.give_all.new.held a.out.now c.give_all.ensures) in record { said = all.0; places = all.1 }
