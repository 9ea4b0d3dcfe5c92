-- What follows the digits before the point: nothing, something else than a point with 1 to 6 digits, or these. Assumes nothing.
use mathlib.Core.Path.{◌≡◌, sym, ◌∙◌, ap, ap₂}
use mathlib.Core.Bool.{Bool, true, false, ◌||◌}
use mathlib.Core.List.{List}
use Prim.Native.Nat.{ℕ, ◌+◌, ◌≤◌, ◌<◌}
use native.Mathlib.Omega.{arith}
use borrow.Author.Tests.{lt-ltb, le-ltb}
use lib.Dec.{ltb}
use lib.ListN.{length}
use Rattle.lines.specs.Lines.{worth}
use Rattle.text.specs.Scan.{bad_point}
use Rattle.text.specs.Read.{digits_end, bad_fraction, made_said}
use Rattle.text.proofs.Pass.{fraction_tests, all_left, rest_ended, rest_refused, rest_made}
use Rattle.text.proofs.reading.read_rest.Goals as goal

-- the tests in their order
point_first : (p r : Bool) → p ≡ true → (p || r) ≡ true
point_first p r e = rw e

point_good : (p r : Bool) → p ≡ false → (p || r) ≡ r
point_good p r e = rw e

-- behind a good point only the digits' end is left to test
last_test
    : (bytes : List ℕ) (end : ℕ) (p : Bool) → end < length bytes → p ≡ bad_point bytes end → p ≡ false
    → bad_fraction bytes end ≡ ltb (digits_end bytes (end + 1)) (length bytes)
last_test bytes end p more e good = fraction_tests bytes end more ∙ point_good _ _ (sym e ∙ good)

pub returns-then-bytes-end : goal.returns-then-bytes-end
returns-then-bytes-end c = let a = c.args in
    c.amount_of.ensures ∙ rest_ended a.currency a.negative a.bytes.now a.end a.number c.if-bytes-end.true

pub returns-then-bad_point : goal.returns-then-bad_point
returns-then-bad_point c = let a = c.args in
    rest_refused a.currency a.negative a.bytes.now a.end a.number
    (fraction_tests a.bytes.now a.end c.if-bytes-end.false ∙ point_first _ _ (sym c.bad_point.ensures ∙ c.if-bad_point.true))

pub returns-then-fraction-bytes : goal.returns-then-fraction-bytes
returns-then-fraction-bytes c =
    let a = c.args in
    let bytes = a.bytes.now in
    rest_refused a.currency a.negative bytes a.end a.number
    (last_test bytes a.end _ c.if-bytes-end.false c.bad_point.ensures c.if-bad_point.false
    ∙ lt-ltb (digits_end bytes (a.end + 1)) (length bytes) (omega (arith, c.if-fraction-bytes.true, c.scan-fraction.ensures.ends)))

pub returns : goal.returns
returns c =
    let a = c.args in
    let bytes = a.bytes.now in
    let scan = c.scan-fraction in
    let all : length bytes ≤ digits_end bytes (a.end + 1) = omega (arith, c.if-fraction-bytes.false, scan.ensures.ends) in
    c.amount_of-2.ensures
    ∙ ap₂ (λ (k m : ℕ). made_said a.currency a.negative k m) c.scale_of-scale.ensures
    (scan.ensures.makes ∙ ap (worth a.number) (all_left bytes a.end c.if-bytes-end.false all))
    ∙ rest_made a.currency a.negative bytes a.end a.number
    (last_test bytes a.end _ c.if-bytes-end.false c.bad_point.ensures c.if-bad_point.false ∙ le-ltb (digits_end bytes (a.end + 1)) (length bytes) all)
