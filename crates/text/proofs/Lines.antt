-- Document 02's "-12.50" and the edges of the grammar, by computing both sides. Assumes nothing.
use mathlib.Core.Path.{◌≡◌, refl}
use mathlib.Core.List.{[], ◌∷◌, map}
use Prim.Native.Nat.{ℕ}
use lib.IntN.{pos, negsuc}
use Rattle.refusal.specs.Rows.{gives, refuses}
use Rattle.lines.specs.Lines.{span, worth}
use Rattle.lines.specs.Texts.{decimal}
use Rattle.currency.specs.Names.{EUR}
use Rattle.currency.specs.Table.{letters}
use Rattle.amount.specs.declared.Amount.{Amount}
use Rattle.text.specs.Read.{bad_shape, read_said}
use Rattle.text.specs.Written.{last_digits, spelled, text_of}

-- so many euros
abbrev euros : (scale : ℕ) → (coefficient : ℕ) → Amount
euros scale m = record { currency = EUR; scale = scale; coefficient = pos m }

-- "-12.50"
pub twelve_fifty : read_said EUR (letters "-12.50") ≡ gives (record { currency = EUR; scale = 2; coefficient = negsuc 1249 })
unfolding span worth bad_shape read_said
twelve_fifty = refl

pub twelve_fifty_written : text_of (record { currency = EUR; scale = 2; coefficient = negsuc 1249 }) ≡ letters "-12.50"
unfolding decimal last_digits spelled
twelve_fifty_written = refl

-- "the number of digits after the point is the scale"
pub scales : map (read_said EUR) (letters "0" ∷ letters "0.0" ∷ letters "7" ∷ letters "0.000001" ∷ [])
    ≡ gives (euros 0 0) ∷ gives (euros 1 0) ∷ gives (euros 0 7) ∷ gives (euros 6 1) ∷ []
unfolding span worth bad_shape read_said
scales = refl

pub scales_written : map text_of (euros 0 0 ∷ euros 1 0 ∷ euros 0 7 ∷ euros 6 1 ∷ [])
    ≡ letters "0" ∷ letters "0.0" ∷ letters "7" ∷ letters "0.000001" ∷ []
unfolding decimal last_digits spelled
scales_written = refl

-- "Refusal 14 for anything else": leading zeros, a minus on zero, a point without digits on either side, seven digits, no digits, another sign, a space
pub refused : map (read_said EUR)
    (letters "00" ∷ letters "01.5" ∷ letters "-0" ∷ letters "-0.00" ∷ letters "1." ∷ letters ".5" ∷ letters "1.0000000" ∷ letters "" ∷ letters "-" ∷ letters "+1" ∷ letters " 1" ∷ letters "1.2.3" ∷ letters "--1" ∷ letters "1,5" ∷ [])
    ≡ map (λ (n : ℕ). refuses n 0) (14 ∷ 14 ∷ 14 ∷ 14 ∷ 14 ∷ 14 ∷ 14 ∷ 14 ∷ 14 ∷ 14 ∷ 14 ∷ 14 ∷ 14 ∷ 14 ∷ [])
unfolding span worth bad_shape read_said
refused = refl

-- "at most 20 characters"; "a well-formed text over L gets 13", with 20 digits too, which no machine word holds
pub edges : map (read_said EUR) (letters "99999999999999999999" ∷ letters "999999999999999999999" ∷ letters "-9999999999999.000000" ∷ letters "-999999999999.000000" ∷ [])
    ≡ map (λ (n : ℕ). refuses n 0) (13 ∷ 14 ∷ 14 ∷ 13 ∷ [])
unfolding span worth bad_shape read_said
edges = refl
