-- A refused check is the answer; what passed has a sound book and room for every call, and all are served. Assumes nothing.
use mathlib.Core.Path.{◌≡◌, sym, ap₂, ◌∙◌}
use mathlib.Core.Bool.{Bool}
use lib.ListN.{length}
use Rattle.refusal.specs.Rows.{check_of}
use Rattle.book.specs.Books.{listed_rows}
use Rattle.bulk.specs.Runs.{run_rows}
use Rattle.bulk.proofs.Answered.{run_fit, run_refused, run_passed}
use Rattle.bulk.proofs.serving.run.Goals as goal

pub serve-last-requires : goal.serve-last-requires
serve-last-requires c =
    let checked : let a = c.args in c.check.result ≡ check_of (run_rows a.book (length a.refunds.now) (length a.coefficients.now) (length a.payouts.now) (length a.numbers.now)) =
    let a = c.args in
    c.check.ensures ∙ ap₂ (λ (x y : Bool). check_of (listed_rows a.book x y)) c.unequal-broken.ensures c.too_short-short.ensures in
    let a = c.args in
    let fit = run_fit a.book (length a.refunds.now) (length a.coefficients.now) (length a.payouts.now) (length a.numbers.now) (sym checked ∙ c.in-Ok.is) in record { sound = fit.0; fit = fit.1 }

pub returns-in-Err : goal.returns-in-Err
returns-in-Err c =
    let checked : let a = c.args in c.check.result ≡ check_of (run_rows a.book (length a.refunds.now) (length a.coefficients.now) (length a.payouts.now) (length a.numbers.now)) =
    let a = c.args in
    c.check.ensures ∙ ap₂ (λ (x y : Bool). check_of (listed_rows a.book x y)) c.unequal-broken.ensures c.too_short-short.ensures in
    let a = c.args in
    run_refused a.book a.refunds.now a.coefficients.now a.payouts.now a.numbers.now c.in-Err.refusal
    (sym checked ∙ c.in-Err.is)

pub returns-in-Ok : goal.returns-in-Ok
returns-in-Ok c =
    let checked : let a = c.args in c.check.result ≡ check_of (run_rows a.book (length a.refunds.now) (length a.coefficients.now) (length a.payouts.now) (length a.numbers.now)) =
    let a = c.args in
    c.check.ensures ∙ ap₂ (λ (x y : Bool). check_of (listed_rows a.book x y)) c.unequal-broken.ensures c.too_short-short.ensures in
    let a = c.args in
    run_passed a.book a.refunds.now a.coefficients.now a.payouts.now a.numbers.now
    (sym checked ∙ c.in-Ok.is) c.serve-last.ensures
