-- The loop's invariant: the digits end where they end from the place that the loop came to, and what they make is what those that are left make behind the number
-- so far, which has at most as many digits as bytes were passed. Assumes nothing.
use mathlib.Core.Path.{◌≡◌, sym, ◌∙◌, subst}
use mathlib.Core.Bool.{true}
use Prim.Native.Nat.{ℕ, ◌+◌, ◌-◌, ◌*◌, ◌^◌, ◌≤◌, ◌<◌}
use native.Mathlib.Nat.{pow-le-pow_right}
use native.Mathlib.Omega.{arith}
use lib.ListN.{length, get_or}
use Rattle.text.specs.Scan.{Scanned}
use Rattle.lines.specs.Lines.{is_digit}
use Rattle.lines.proofs.Spans.{on, ended, out}
use Rattle.text.proofs.Pass.{goes_on, stops, runs_out, grows}
use Rattle.text.proofs.reading.scan.Goals as goal

pub returns-then-not-is_ascii_digit : goal.returns-then-not-is_ascii_digit
returns-then-not-is_ascii_digit c = let bytes = c.args.bytes.now in
    let other = sym c.is_ascii_digit.ensures.value ∙ c.if-not-is_ascii_digit.true in
    record {
      ends = sym (c.loop-i.invariant.2 ∙ ended is_digit bytes c.loop-i.i c.loop-i-test.true other);
      makes = sym (c.loop-i.invariant.3 ∙ stops is_digit bytes c.loop-i.i c.loop-i.number c.loop-i-test.true other);
      small = c.loop-i.invariant.1;
    }

-- what a digit is worth
below_ten : (b : ℕ) → is_digit b ≡ true → b ≤ 57
below_ten b e = grind arith

-- a digit behind at most 17 others stays in a word
room : (number i : ℕ) → number < 10 ^ i → i ≤ 17 → number * 10 + 9 < 10 ^ 18
room number i small few =
    let power : 10 ^ i ≤ 10 ^ 17 = pow-le-pow_right (omega arith) {i = i} {j = 17} few in
    omega (arith, small, power)

pub overflow_mul-number : goal.overflow_mul-number
overflow_mul-number c =
    let l = c.loop-i in
    omega (arith, room l.number l.i l.invariant.1 (omega (arith, l.invariant.0, c.requires.1)))

pub overflow_add-number : goal.overflow_add-number
overflow_add-number c =
    let l = c.loop-i in
    omega (arith, room l.number l.i l.invariant.1 (omega (arith, l.invariant.0, c.requires.1)), below_ten (get_or c.args.bytes.now c.loop-i.i 0) (sym c.is_ascii_digit.ensures.value ∙ c.if-not-is_ascii_digit.false))

pub loop-i-preserved : goal.loop-i-preserved
loop-i-preserved c =
    let l = c.loop-i in
    let bytes = c.args.bytes.now in
    let some = sym c.is_ascii_digit.ensures.value ∙ c.if-not-is_ascii_digit.false in
    let there = c.loop-i-test.true in (
      omega (arith, there),
      grows l.number l.i (get_or bytes l.i 0 - 48) l.invariant.1 (omega (arith, below_ten (get_or c.args.bytes.now c.loop-i.i 0) (sym c.is_ascii_digit.ensures.value ∙ c.if-not-is_ascii_digit.false))),
      l.invariant.2 ∙ on is_digit bytes l.i there some,
      l.invariant.3 ∙ goes_on is_digit bytes l.i l.number there some,
    )

pub returns : goal.returns
returns c = let bytes = c.args.bytes.now in
    let end : c.loop-i.i ≡ length bytes = omega (arith, c.loop-i.invariant.0, c.loop-i-test.false) in
    subst (λ (k : ℕ). Scanned bytes c.args.at c.args.before k c.loop-i.number) end
    (record {
      ends = sym (c.loop-i.invariant.2 ∙ out is_digit bytes c.loop-i.i c.loop-i-test.false);
      makes = sym (c.loop-i.invariant.3 ∙ runs_out is_digit bytes c.loop-i.i c.loop-i.number c.loop-i-test.false);
      small = c.loop-i.invariant.1;
    })
