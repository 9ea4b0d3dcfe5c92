-- Each test is one of the definition's. Assumes nothing.
use mathlib.Core.Path.{sym, ◌∙◌, ap}
use mathlib.Core.Bool.{Bool, ◌||◌}
use Prim.Native.Nat.{ℕ, ◌+◌}
use borrow.Author.Tests.{le-ltb}
use lib.Dec.{ltb}
use lib.ListN.{length}
use Rattle.text.specs.Read.{digits_end}
use Rattle.text.proofs.Accepted.{first_fails}
use Rattle.text.proofs.Pass.{fraction_tests}
use Rattle.text.proofs.reading.bad_fraction.Goals as goal

pub returns-then-bytes-end : goal.returns-then-bytes-end
returns-then-bytes-end c = let a = c.args in sym (first_fails (ltb a.end (length a.bytes.now)) _ (le-ltb _ _ c.if-bytes-end.true))

pub returns-then-bad_point : goal.returns-then-bad_point
returns-then-bad_point c = let a = c.args in
    let bytes = a.bytes.now in
    sym
    (fraction_tests bytes a.end c.if-bytes-end.false
    ∙ ap (λ (p : Bool). p || ltb (digits_end bytes (a.end + 1)) (length bytes)) (sym c.bad_point.ensures ∙ c.if-bad_point.true))

pub returns : goal.returns
returns c = let a = c.args in
    let bytes = a.bytes.now in
    ap (λ (k : ℕ). ltb k (length bytes)) c.digits_end.ensures
    ∙ sym
    (fraction_tests bytes a.end c.if-bytes-end.false
    ∙ ap (λ (p : Bool). p || ltb (digits_end bytes (a.end + 1)) (length bytes)) (sym c.bad_point.ensures ∙ c.if-bad_point.false))
