-- Document 02, Ask 7: "if the rounded quotient's magnitude is over 10^18 the leaf gives 13, and only then". Row 13 is the last, so that where the
-- mode, the factors and the divisor are within their limits its test alone decides. Assumes nothing.
use mathlib.Core.Path.{◌≡◌, sym, ◌∙◌}
use mathlib.Core.List.{[], ◌∷◌}
use mathlib.Core.Logic.{◌↔◌}
use Prim.Native.Nat.{ℕ, ◌<◌, ◌≤◌}
use native.Mathlib.Decide.{dec_lt}
use native.Mathlib.Omega.{arith}
use borrow.Author.Tests.{lt-ltb, le-ltb}
use lib.Dec.{ltb}
use lib.IntN.{ℤ}
use Rattle.refusal.specs.declared.Refusal.TheVariants.{Limit}
use Rattle.refusal.specs.Rows.{gives, refuses, row, first_row}
use Rattle.whole.specs.Whole.{magnitude_of}
use Rattle.rounding.specs.Modes.{bad_mode}
use Rattle.rounding.specs.Plain.{limit, plain_rows, quotient_of, plain_said}

module _ (mode : ℕ) (a b : ℤ) (d : ℕ)
    (chosen : mode ≤ 6) (first : magnitude_of a ≤ limit) (second : magnitude_of b ≤ limit) (some : 0 < d) (divisor : d ≤ limit) where
  -- only row 13 is left
  last_row : plain_said mode a b d
      ≡ first_row (row Limit (ltb limit (magnitude_of (quotient_of mode a b d))) ∷ []) (gives (quotient_of mode a b d))
  unfolding plain_said plain_rows bad_mode
  last_row =
      rw (
        le-ltb 6 mode chosen,
        le-ltb limit (magnitude_of a) first,
        le-ltb limit (magnitude_of b) second,
        le-ltb d 1 some,
        le-ltb limit d divisor,
      )

  gives_13 : limit < magnitude_of (quotient_of mode a b d) → plain_said mode a b d ≡ refuses 13 0
  gives_13 more = last_row ∙ rw (lt-ltb limit (magnitude_of (quotient_of mode a b d)) more)

  -- and every other quotient is given
  pub else_given : magnitude_of (quotient_of mode a b d) ≤ limit → plain_said mode a b d ≡ gives (quotient_of mode a b d)
  else_given within = last_row ∙ rw (le-ltb limit (magnitude_of (quotient_of mode a b d)) within)

  only_then : plain_said mode a b d ≡ refuses 13 0 → limit < magnitude_of (quotient_of mode a b d)
  only_then e = go (dec_lt limit (magnitude_of (quotient_of mode a b d)))
    where
      go : Dec (limit < magnitude_of (quotient_of mode a b d)) → limit < magnitude_of (quotient_of mode a b d)
      go (yes more) = more
      go (no f) =
          let given : gives (quotient_of mode a b d) ≡ refuses 13 0 = sym (else_given (omega arith)) ∙ e in
          let z : ◌≡◌ {A = ℕ} 0 1 = cc in absurd (omega arith)

  -- THE LAW
  pub over_exactly_when : plain_said mode a b d ≡ refuses 13 0 ↔ limit < magnitude_of (quotient_of mode a b d)
  over_exactly_when = (only_then, gives_13)
