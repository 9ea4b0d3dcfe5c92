-- The number is the same from every line that the loop came to: no line before it has the code. Assumes nothing.
use mathlib.Core.Path.{◌≡◌, sym, ◌∙◌, ap}
use mathlib.Core.Bool.{Bool}
use Prim.Native.Nat.{ℕ}
use native.Mathlib.Omega.{arith}
use lib.ListN.{get_or}
use Rattle.currency.specs.declared.Line.{Line}
use Rattle.currency.specs.Table.{none, currencies, line_of}
use Rattle.text.specs.Codes.{has_code}
use Rattle.text.proofs.ByCode.{scan_on, scan_ends, scan_out}
use Rattle.text.proofs.codes.by_letters.Goals as goal

-- the line that is asked is the table's
asked : (a b c i : ℕ) (r : Bool) (line : Line) → r ≡ has_code a b c line → line ≡ line_of (record { 0 = i }) → has_code a b c (get_or currencies i none) ≡ r
unfolding line_of
asked a b c i r line e f = sym (e ∙ ap (has_code a b c) f)

pub returns-then-has_code : goal.returns-then-has_code
returns-then-has_code c =
    let a = c.args in
    sym
    (c.loop-i.invariant.1
    ∙ scan_ends a.a a.b a.c currencies c.loop-i.i (omega arith) (asked _ _ _ _ _ _ c.has_code.ensures c.line_of.ensures ∙ c.if-has_code.true))

pub loop-i-preserved : goal.loop-i-preserved
loop-i-preserved c =
    let a = c.args in
    (omega arith, c.loop-i.invariant.1 ∙ scan_on a.a a.b a.c currencies c.loop-i.i (omega arith) (asked _ _ _ _ _ _ c.has_code.ensures c.line_of.ensures ∙ c.if-has_code.false))

pub returns : goal.returns
returns c =
    let a = c.args in
    sym (c.loop-i.invariant.1 ∙ scan_out a.a a.b a.c currencies c.loop-i.i (omega arith))
