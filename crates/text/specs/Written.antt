-- Document 02, Ask 1, writing: the one text of an amount; "The writer fills the front of a lent buffer, reports the length, leaves the rest alone, and
-- gives 11 if there isn't room." Cited by `write`. Assumes nothing.
use Rattle.std.specs.Prelude.{◌≡◌, Bool, List, [], ◌∷◌, ◌++◌, ℕ, zero, suc, ◌+◌, ◌/◌, ◌%◌, ◌^◌, ltb, length, drop, Result}
use Rattle.refusal.specs.Rows.{Said, gives, refuses, Row, row, first_row, means}
use Rattle.refusal.specs.declared.Refusal.{Refusal}
use Rattle.refusal.specs.declared.Refusal.TheVariants.{Room}
use Rattle.whole.specs.Whole.{negative, magnitude_of}
use Rattle.lines.specs.Texts.{decimal}
use Rattle.amount.specs.declared.Amount.{Amount}
use Rattle.amount.specs.Amounts.{amount_rows}
use Rattle.text.specs.Grammar.{minus, pointed}

-- the last so many digits of a number
unfoldable pub last_digits : (count n : ℕ) → List ℕ
last_digits zero n = []
last_digits (suc count) n = last_digits count (n / 10) ++ ((48 + n % 10) ∷ [])

-- the sign, the whole units, and behind a point as many digits as the scale
unfoldable pub spelled : Bool → (m scale : ℕ) → List ℕ
spelled sign m scale = minus sign ++ (decimal 20 (m / 10 ^ scale) ++ pointed (last_digits scale m))

abbrev pub text_of : Amount → List ℕ
text_of a = spelled (negative a.coefficient) (magnitude_of a.coefficient) a.scale

-- the rows: 2, 3 and 4 at the amount, and 11
abbrev pub room_rows : List ℕ → (room : ℕ) → List Row
room_rows text room = row Room (ltb room (length text)) ∷ []

abbrev pub write_rows : Amount → (room : ℕ) → List Row
write_rows a room = amount_rows a.scale (magnitude_of a.coefficient) a.currency ++ room_rows (text_of a) room

-- the length, or the refusal
unfoldable pub write_said : Amount → (room : ℕ) → Said ℕ
write_said a room = first_row (write_rows a room) (gives (length (text_of a)))

-- the buffer afterwards: the text in front, and the rest as it was; all of it where the call is refused
unfoldable pub buffer_after : (text : List ℕ) → Said ℕ → List ℕ → List ℕ
buffer_after text (gives n) out = text ++ drop n out
buffer_after text (refuses number blamed) out = out

-- what `write` answers, and the buffer afterwards
pub record Writes (text : List ℕ) (said : Said ℕ) (out : List ℕ) (r : Result ℕ Refusal) (after : List ℕ) : Type 0 where
  pub answer : means r ≡ said
  pub left : after ≡ buffer_after text said out

-- what a text's answer is where its amount was let pass
abbrev pub room_said : (text : List ℕ) → (room : ℕ) → Said ℕ
room_said text room = first_row (room_rows text room) (gives (length text))
