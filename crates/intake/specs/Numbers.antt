-- The number at a place of a list, as a type holds it; amounts and weights from a place on. Assumes nothing.
use Rattle.std.specs.Prelude.{List, ℕ, ◌+◌, ◌-◌, min, ℤ, length, get_or}
use Rattle.amount.specs.declared.Amount.{Amount}
use Rattle.lines.specs.Lines.{nought, as_unsigned, as_signed}
use Rattle.lines.specs.declared.Number.{Number}
use Rattle.whole.specs.Lists.{filled}

-- 0 where the list has no such place
abbrev pub nth : List Number → ℕ → Number
nth numbers place = get_or numbers place nought

abbrev pub unsigned_at : (largest : ℕ) → List Number → ℕ → ℕ
unsigned_at largest numbers place = as_unsigned largest (nth numbers place).negative (nth numbers place).magnitude

abbrev pub signed_at : List Number → ℕ → ℤ
signed_at numbers place = as_signed (nth numbers place).negative (nth numbers place).magnitude

-- a currency, a scale and a coefficient, from a place on
abbrev pub amount_at : List Number → ℕ → Amount
amount_at numbers place =
    record {
      currency = record { 0 = unsigned_at 255 numbers place };
      scale = unsigned_at 255 numbers (place + 1);
      coefficient = signed_at numbers (place + 2);
    }

-- the numbers from one place up to another into a list, each as the list's type holds it, as many as the list has places for: how many, and the list
-- afterwards
abbrev pub listed_count : {A : Type 0} → (from to : ℕ) → List A → ℕ
listed_count from to xs = min (to - from) (length xs)

unfoldable pub listed : {A : Type 0} → (number : ℕ → A) (from to : ℕ) → List A → List A
listed number from to xs = filled 0 (λ k. number (from + k)) (listed_count from to xs) xs
