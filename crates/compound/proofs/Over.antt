-- A row over L is one of all rows up to any place behind it; where none is, each is within L. Rows never fall, so that the last row decides.
-- Assumes nothing.
use mathlib.Core.Path.{◌≡◌, refl, sym, ◌∙◌, ap}
use mathlib.Core.Bool.{Bool, true, false, ◌||◌}
use Prim.Native.Nat.{ℕ, zero, suc, ◌+◌, ◌≤◌, ◌<◌}
use native.Mathlib.Decide.{ℕ_discrete, dec_lt}
use native.Mathlib.Numerals.{add-one}
use native.Mathlib.Omega.{arith}
use borrow.Author.Tests.{lt-ltb, le-ltb}
use Rattle.amount.specs.Amounts.{largest, over_l}
use Rattle.balances.specs.Rule.{balance_at}
use Rattle.balances.proofs.Rows.{never_falls}
use Rattle.compound.specs.Table.{any_over}

or_true : (b : Bool) → b || true ≡ true
or_true true = refl
or_true false = refl

module _ (p r : ℕ) where
  pub none_yet : any_over p r 0 ≡ false
  unfolding any_over
  none_yet = refl

  next_over : (n : ℕ) → any_over p r (suc n) ≡ any_over p r n || over_l (balance_at p r n)
  unfolding any_over
  next_over n = refl

  none_behind : (n : ℕ) → any_over p r n ≡ false → balance_at p r n ≤ largest → any_over p r (suc n) ≡ false
  none_behind n none h = rw (next_over n, none, le-ltb largest (balance_at p r n) h)

  -- as a program counts
  pub still_none : (n b : ℕ) → any_over p r n ≡ false → b ≡ balance_at p r n → b ≤ largest → any_over p r (n + 1) ≡ false
  still_none n b none is h = rw add-one (none_behind n none (omega arith))

  pub over_row : (n i b : ℕ) → i < n → b ≡ balance_at p r i → largest < b → any_over p r n ≡ true
  over_row zero i b h is more = absurd (omega arith)
  over_row (suc n) i b h is more = next_over n ∙ go (ℕ_discrete i n) (over_row n i b)
    where
      go : Dec (i ≡ n) → (i < n → b ≡ balance_at p r i → largest < b → any_over p r n ≡ true) → any_over p r n || over_l (balance_at p r n) ≡ true
      go (yes e) before =
          let here : largest < balance_at p r n = omega (arith, ap (balance_at p r) e) in
          rw (lt-ltb largest (balance_at p r n) here) (or_true (any_over p r n))
      go (no f) before = rw (before (omega arith) is more)

  pub all_within : (n : ℕ) → any_over p r n ≡ false → (i : ℕ) → i < n → balance_at p r i ≤ largest
  all_within n none i h = go (dec_lt largest (balance_at p r i))
    where
      go : Dec (largest < balance_at p r i) → balance_at p r i ≤ largest
      go (yes more) =
          let over : any_over p r n ≡ true = over_row n i (balance_at p r i) h refl more in
          let z : ◌≡◌ {A = ℕ} 0 1 = cc in absurd (omega arith)
      go (no f) = omega arith

  none_over : (n : ℕ) → ((i : ℕ) → i < n → balance_at p r i ≤ largest) → any_over p r n ≡ false
  none_over zero each = none_yet
  none_over (suc n) each = none_behind n (none_over n (λ i h. each i (omega arith))) (each n (omega arith))

  pub last_decides : (n : ℕ) → any_over p r (suc n) ≡ over_l (balance_at p r n)
  last_decides n = go (dec_lt largest (balance_at p r n))
    where
      go : Dec (largest < balance_at p r n) → any_over p r (suc n) ≡ over_l (balance_at p r n)
      go (yes more) = over_row (suc n) n (balance_at p r n) (omega arith) refl more ∙ sym (lt-ltb largest (balance_at p r n) more)
      go (no f) =
          none_over (suc n) (λ i h. omega (arith, never_falls p r i n (omega arith))) ∙ sym (le-ltb largest (balance_at p r n) (omega arith))
