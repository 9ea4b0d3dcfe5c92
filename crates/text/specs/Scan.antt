-- What the functions of one pass over a text hand each other. No public promise cites it. Assumes nothing.
use Rattle.std.specs.Prelude.{◌≡◌, Bool, not, ◌||◌, List, [], ◌∷◌, ℕ, ◌+◌, ◌-◌, ◌^◌, ◌<◌, ltb, eqb, length, get_or, take, drop}
use Rattle.refusal.specs.Rows.{Said, row, first_row}
use Rattle.refusal.specs.declared.Refusal.TheVariants.{Malformed}
use Rattle.lines.specs.Lines.{span, is_digit, worth}
use Rattle.currency.specs.declared.Currency.{Currency}
use Rattle.amount.specs.declared.Amount.{Amount}
use Rattle.text.specs.Read.{digits_end, fraction_from, scale_at, bad_fraction, made_said}

-- the most characters of a text within L
abbrev pub most_short : ℕ
most_short = 17

-- the digits from a place on
abbrev pub digits_from : List ℕ → ℕ → List ℕ
digits_from bytes at = take (span is_digit (drop at bytes)) (drop at bytes)

-- where they end, and the number that they make behind digits that make `before`
pub record Scanned (bytes : List ℕ) (at before end number : ℕ) : Type 0 where
  pub ends : end ≡ digits_end bytes at
  pub makes : number ≡ worth before (digits_from bytes at)
  pub small : number < 10 ^ end

-- no point, or not 1 to 6 bytes behind it
abbrev pub bad_point : List ℕ → (end : ℕ) → Bool
bad_point bytes end = not (eqb (get_or bytes end 0) 46) || (eqb (length bytes - (end + 1)) 0 || ltb 6 (length bytes - (end + 1)))

-- a text's answer behind its digits before the point, which end at a place and make a number
unfoldable pub rest_said : Currency → (negative : Bool) → List ℕ → (end number : ℕ) → Said Amount
rest_said currency negative bytes end number =
    first_row (row Malformed (bad_fraction bytes end) ∷ [])
    (made_said currency negative (scale_at (length bytes) end) (worth number (fraction_from bytes end)))
