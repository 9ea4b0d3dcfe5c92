-- The loop's invariant: what the digits give is what those that are left give after the sum so far, which a u64 holds. Assumes nothing.
use mathlib.Core.Path.{sym, ◌∙◌, ap}
use Prim.Native.Nat.{ℕ, ◌+◌}
use native.Mathlib.Omega.{arith}
use lib.ListN.{drop}
use Rattle.lines.proofs.Scans.{scanned, bad, good, done}
use Rattle.lines.proofs.numbers.whole_of.Goals as goal

pub returns-in_err-digit_in : goal.returns-in_err-digit_in
returns-in_err-digit_in c =
    c.from_residual.ensures
    ∙ sym (c.loop-byte.invariant.left ∙ bad c.args.negative c.args.digits.now c.loop-byte.byte-index c.loop-byte.magnitude c.loop-byte-test.true (sym c.digit_in.ensures ∙ c.in_err-digit_in.was))

pub loop-byte-preserved : goal.loop-byte-preserved
loop-byte-preserved c =
    record {
      held = omega (arith, c.with_digit-magnitude.ensures);
      left =
          c.loop-byte.invariant.left
          ∙ good c.args.negative c.args.digits.now c.loop-byte.byte-index c.loop-byte.magnitude _ c.loop-byte-test.true (sym c.digit_in.ensures ∙ c.in_ok-digit_in.was)
          ∙ ap (λ (n : ℕ). scanned c.args.negative n (drop (c.loop-byte.byte-index + 1) c.args.digits.now)) (sym c.with_digit-magnitude.ensures);
    }

pub returns : goal.returns
returns c = sym (c.loop-byte.invariant.left ∙ done c.args.negative c.args.digits.now c.loop-byte.byte-index c.loop-byte.magnitude c.loop-byte.invariant.held (omega arith))
