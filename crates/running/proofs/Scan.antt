-- A scan for the best place, one place at a time: it holds the best place so far and its due number, and while nobody may take the unit
-- 16 and a number beyond every due number. Assumes nothing.
use mathlib.Core.Path.{◌≡◌, refl}
use mathlib.Core.Bool.{Bool, true, false}
use Prim.Native.Nat.{ℕ, ◌+◌, ◌≤◌, ◌<◌}
use native.Mathlib.Numerals.{add-one}
use native.Mathlib.Omega.{arith}
use borrow.Author.Tests.{lt-ltb, le-ltb}
use Rattle.units.specs.Rule.{Taker, nobody, place, better, best_of}
use Rattle.running.specs.Limits.{partners}
use Rattle.running.specs.Taking.{late, number_of}

module _ (may : ℕ → Bool) (owed : ℕ → ℕ) where
  -- the best of some places, as the scan holds it
  abbrev pub Held : Taker → (best least : ℕ) → Type 0
  Held nobody best least = (best ≡ partners) × (least ≡ late)
  Held (place p) best least = (best ≡ p) × (least ≡ owed p)

  -- the best of the first i places
  abbrev pub Scanned : (i best least : ℕ) → Type 0
  Scanned i best least = Held (best_of may owed i) best least

  pub scan_start : Scanned 0 partners late
  unfolding best_of
  scan_start = (refl, refl)

  module _ (i best least : ℕ) (held : Scanned i best least) where
    -- place i may not take the unit
    pub scan_not : may i ≡ false → Scanned (i + 1) best least
    unfolding best_of
    scan_not m = rw add-one (go (best_of may owed i) held)
      where
        go : (b : Taker) → Held b best least → Held (better may owed b i) best least
        go nobody h = rw m h
        go (place p) h = rw m h

    -- place i may, and is no sooner due
    pub scan_kept : may i ≡ true → owed i < late → least ≤ owed i → Scanned (i + 1) best least
    unfolding best_of
    scan_kept m early later = rw add-one (go (best_of may owed i) held)
      where
        go : (b : Taker) → Held b best least → Held (better may owed b i) best least
        go nobody h = absurd (omega arith)
        go (place p) h = rw (m, le-ltb (owed i) (owed p) (omega arith)) h

    -- place i may, and is sooner due
    pub scan_taken : may i ≡ true → owed i < least → Scanned (i + 1) i (owed i)
    unfolding best_of
    scan_taken m sooner = rw add-one (go (best_of may owed i) held)
      where
        go : (b : Taker) → Held b best least → Held (better may owed b i) i (owed i)
        go nobody h = rw m (refl, refl)
        go (place p) h = rw (m, lt-ltb (owed i) (owed p) (omega arith)) (refl, refl)

    -- the scan holds the best place, or 16
    pub scan_end : best ≡ number_of (best_of may owed i)
    scan_end = go (best_of may owed i) held
      where
        go : (b : Taker) → Held b best least → best ≡ number_of b
        go nobody h = h.0
        go (place p) h = h.0
