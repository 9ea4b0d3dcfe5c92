-- A magnitude that is capped above 10^18 settles as the number itself does: both are over L there, and below they are the same. Assumes nothing.
use mathlib.Core.Path.{◌≡◌, ◌∙◌, ap}
use mathlib.Core.Bool.{Bool}
use Prim.Native.Nat.{ℕ, ◌+◌, ◌<◌, ◌≤◌, ◌^◌}
use native.Mathlib.Decide.{dec_lt}
use native.Mathlib.Omega.{arith}
use borrow.Author.Tests.{lt-ltb}
use lib.IntN.{ℤ}
use Rattle.whole.specs.Whole.{magnitude_of, signed_of}
use Rattle.whole.proofs.Laws.{magnitude_signed}
use Rattle.rounding.specs.Product.{capped}
use Rattle.rounding.proofs.Capped.{capped_is}
use Rattle.currency.specs.declared.Currency.{Currency}
use Rattle.amount.specs.Amounts.{largest}
use Rattle.euro.specs.Conversion.{settled}

-- over 10^18 one more stands for it
capped_most : (n : ℕ) → 10 ^ 18 < n → capped n ≡ 10 ^ 18 + 1
unfolding capped
capped_most n more = rw (lt-ltb (10 ^ 18) n more)

-- it is never more than that
pub capped_least : (n : ℕ) → capped n ≤ 10 ^ 18 + 1
capped_least n = go (dec_lt (10 ^ 18) n)
  where
    go : Dec (10 ^ 18 < n) → capped n ≤ 10 ^ 18 + 1
    go (yes more) = omega (arith, capped_most n more)
    go (no f) = omega (arith, capped_is n (omega arith))

-- over L as the number is, and the number itself where it isn't
pub over : (n : ℕ) → largest < capped n → largest < n
over n h = go (dec_lt (10 ^ 18) n)
  where
    go : Dec (10 ^ 18 < n) → largest < n
    go (yes more) = omega arith
    go (no f) = omega (arith, capped_is n (omega arith))

pub same : (n : ℕ) → capped n ≤ largest → capped n ≡ n
same n h = go (dec_lt (10 ^ 18) n)
  where
    go : Dec (10 ^ 18 < n) → capped n ≡ n
    go (yes more) = absurd (omega (arith, capped_most n more))
    go (no f) = capped_is n (omega arith)

-- so that it settles alike: z is the number, with its sign
pub settles : (to : Currency) (sign : Bool) (z : ℤ) → signed_of sign (magnitude_of z) ≡ z
    → settled to (signed_of sign (capped (magnitude_of z))) ≡ settled to z
settles to sign z whole = go (dec_lt largest (capped (magnitude_of z)))
  where
    go : Dec (largest < capped (magnitude_of z)) → settled to (signed_of sign (capped (magnitude_of z))) ≡ settled to z
    go (yes more) =
        rw (
          magnitude_signed sign (capped (magnitude_of z)),
          lt-ltb largest (capped (magnitude_of z)) more,
          lt-ltb largest (magnitude_of z) (over (magnitude_of z) more),
        )
    go (no f) = ap (λ (n : ℕ). settled to (signed_of sign n)) (same (magnitude_of z) (omega arith)) ∙ ap (settled to) whole
