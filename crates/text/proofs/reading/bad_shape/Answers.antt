-- The tests in their order. Assumes nothing.
use mathlib.Core.Path.{◌≡◌, sym, ◌∙◌}
use mathlib.Core.Bool.{Bool, true, false, ◌||◌}
use borrow.Author.Tests.{lt-ltb, le-ltb}
use lib.Dec.{ltb}
use lib.ListN.{length}
use Rattle.text.specs.Read.{bad_whole, bad_fraction, bad_shape}
use Rattle.text.proofs.reading.bad_shape.Goals as goal

over : (x r : Bool) → x ≡ true → true ≡ (x || r)
over x r e = rw e

second : (x y z : Bool) → x ≡ false → y ≡ true → true ≡ (x || (y || z))
second x y z e f = rw (e, f)

third : (x y z : Bool) → x ≡ false → y ≡ false → z ≡ (x || (y || z))
third x y z e f = rw (e, f)

pub returns-then-bytes-gt-CHARACTERS : goal.returns-then-bytes-gt-CHARACTERS
unfolding bad_shape
returns-then-bytes-gt-CHARACTERS c = let a = c.args in over (ltb 20 (length a.bytes.now)) _ (lt-ltb _ _ c.if-bytes-gt-CHARACTERS.true)

pub returns-then-bad_whole : goal.returns-then-bad_whole
unfolding bad_shape
returns-then-bad_whole c = let a = c.args in
    second (ltb 20 (length a.bytes.now)) (bad_whole a.bytes.now a.start a.end) (bad_fraction a.bytes.now a.end)
    (le-ltb _ _ c.if-bytes-gt-CHARACTERS.false) (sym c.bad_whole.ensures ∙ c.if-bad_whole.true)

pub returns : goal.returns
unfolding bad_shape
returns c = let a = c.args in
    c.bad_fraction.ensures
    ∙ third (ltb 20 (length a.bytes.now)) (bad_whole a.bytes.now a.start a.end) (bad_fraction a.bytes.now a.end)
    (le-ltb _ _ c.if-bytes-gt-CHARACTERS.false) (sym c.bad_whole.ensures ∙ c.if-bad_whole.false)
