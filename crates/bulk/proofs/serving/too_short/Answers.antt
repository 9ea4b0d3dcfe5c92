-- A quotient by sixteen is below the calls where sixteen times the calls is above the places. Assumes nothing.
use mathlib.Core.Path.{◌≡◌, sym, ◌∙◌}
use Prim.Native.Nat.{ℕ, ◌*◌, ◌/◌, ◌≤◌, ◌<◌}
use native.Mathlib.Decide.{dec_lt}
use native.Mathlib.Nat.{div-lt_iff_lt-mul, le-div_iff_mul-le}
use native.Mathlib.Omega.{arith}
use borrow.Author.Tests.{lt-ltb, le-ltb}
use lib.Dec.{ltb}
use Rattle.bulk.specs.Runs.{short}
use Rattle.bulk.proofs.serving.too_short.Goals as goal

by_quotient : (payouts calls : ℕ) → ltb (payouts / 16) calls ≡ ltb payouts (calls * 16)
by_quotient payouts calls = go (dec_lt (payouts / 16) calls)
  where
    go : Dec (payouts / 16 < calls) → ltb (payouts / 16) calls ≡ ltb payouts (calls * 16)
    go (yes h) = lt-ltb (payouts / 16) calls h ∙ sym (lt-ltb payouts (calls * 16) ((div-lt_iff_lt-mul (omega arith)).0 h))
    go (no h) =
        let over : calls ≤ payouts / 16 = omega arith in
        le-ltb (payouts / 16) calls over ∙ sym (le-ltb payouts (calls * 16) ((le-div_iff_mul-le (omega arith)).0 over))

pub returns-then-numbers-calls : goal.returns-then-numbers-calls
unfolding short
returns-then-numbers-calls c = rw (lt-ltb _ _ c.if-numbers-calls.true)

pub returns-else-numbers-calls : goal.returns-else-numbers-calls
unfolding short
returns-else-numbers-calls c = rw (le-ltb c.args.numbers c.args.calls c.if-numbers-calls.false) (by_quotient c.args.payouts c.args.calls)
