-- "A line of over 4,000 bytes whose first word is `open`", or `card`, which ends a book as an `open` does: what is known of the first word after each byte of the line, whose bytes need not
-- be held. Cited by `lead_of` and `is_open`. Assumes nothing.
use Rattle.std.specs.Prelude.{Bool, true, false, cond, List, [], ◌∷◌, ℕ, eqb}
use Rattle.intake.specs.declared.Lead.{Lead}
use Rattle.intake.specs.declared.Lead.TheVariants.{Spaces, O, Op, Ope, C, Ca, Car, Open, OpenSpace, OpenReturn, Other}

abbrev pub goes_on : (byte wanted : ℕ) → Lead → Lead
goes_on byte wanted then = cond (eqb byte wanted) then Other

-- 111 and 99 are the first letters of `open` and `card`
abbrev pub begins_with : ℕ → Lead
begins_with b = cond (eqb b 99) C (goes_on b 111 O)

-- 32 is a space, 111, 112, 101 and 110 are the letters of `open`, 99, 97, 114 and 100 those of `card`; 13 is a carriage return, which is no part of the line where it is its last
abbrev pub lead_after : Lead → ℕ → Lead
lead_after Spaces b = cond (eqb b 32) Spaces (begins_with b)
lead_after O b = goes_on b 112 Op
lead_after Op b = goes_on b 101 Ope
lead_after Ope b = goes_on b 110 Open
lead_after C b = goes_on b 97 Ca
lead_after Ca b = goes_on b 114 Car
lead_after Car b = goes_on b 100 Open
lead_after Open b = cond (eqb b 32) OpenSpace (goes_on b 13 OpenReturn)
lead_after OpenSpace b = OpenSpace
lead_after OpenReturn b = Other
lead_after Other b = Other

unfoldable pub lead_of : Lead → List ℕ → Lead
lead_of lead [] = lead
lead_of lead (b ∷ bs) = lead_of (lead_after lead b) bs

-- whether the first word is `open` or `card`, the line being at its end
abbrev pub is_open : Lead → Bool
is_open Open = true
is_open OpenSpace = true
is_open OpenReturn = true
is_open Spaces = false
is_open O = false
is_open Op = false
is_open Ope = false
is_open C = false
is_open Ca = false
is_open Car = false
is_open Other = false
