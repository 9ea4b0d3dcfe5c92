-- The digits before the point are those of the text, and what follows them is read behind them. Assumes nothing.
use mathlib.Core.Path.{◌≡◌, sym, ◌∙◌}
use mathlib.Core.List.{List}
use Prim.Native.Nat.{ℕ, ◌≤◌}
use native.Mathlib.Omega.{arith}
use lib.ListN.{length}
use Rattle.text.specs.Read.{start_in, digits_end}
use Rattle.text.proofs.Accepted.{within, start_inside}
use Rattle.text.proofs.Pass.{whole_refused, rest_is}
use Rattle.text.proofs.reading.read_short.Goals as goal

-- the digits end within the text
end_inside : (bytes : List ℕ) (start end : ℕ) → start ≡ start_in bytes → end ≡ digits_end bytes start → end ≤ length bytes
end_inside bytes start end starts ends =
    let first : start ≤ length bytes = omega (arith, starts, start_inside bytes) in
    omega (arith, ends, within bytes start first)

pub bad_whole-requires : goal.bad_whole-requires
bad_whole-requires c =
    end_inside _ _ _ c.start_of-start.ensures c.scan-whole.ensures.ends

pub returns-then-bad_whole : goal.returns-then-bad_whole
returns-then-bad_whole c = let a = c.args in
    whole_refused a.currency a.bytes.now c.start_of-start.result c.scan-whole.result.end c.requires.0 c.start_of-start.ensures c.scan-whole.ensures.ends
    (sym c.bad_whole.ensures ∙ c.if-bad_whole.true)

pub read_rest-requires : goal.read_rest-requires
read_rest-requires c =
    (end_inside _ _ _ c.start_of-start.ensures c.scan-whole.ensures.ends, c.requires.1, c.scan-whole.ensures.small)

pub returns : goal.returns
returns c = let a = c.args in
    c.read_rest.ensures
    ∙ rest_is a.currency a.bytes.now c.start_of-start.result c.scan-whole.result.end c.requires.0 c.start_of-start.ensures c.scan-whole.ensures.ends
    c.scan-whole.result.number c.scan-whole.ensures.makes (omega (arith, c.requires.1)) (sym c.bad_whole.ensures ∙ c.if-bad_whole.false)
