-- Whole numbers as text, as the programs write them. Cited by `put_number`. Assumes nothing.
use Rattle.std.specs.Prelude.{Bool, cond, ◌&&◌, List, [], ◌∷◌, ◌++◌, ℕ, zero, suc, ◌+◌, ◌/◌, ◌%◌, ltb, leb, length, take, drop}

-- the decimal digits of a number below 10 ^ places, with no zero in front but for 0 itself
unfoldable pub decimal : (places n : ℕ) → List ℕ
decimal zero n = []
decimal (suc places) n = cond (ltb n 10) ((48 + n) ∷ []) (decimal places (n / 10) ++ ((48 + n % 10) ∷ []))

-- a u64 has at most 20 digits; a minus stands before a negative number, never before 0
unfoldable pub text_of : Bool → ℕ → List ℕ
text_of sign m = cond (sign && ltb 0 m) (45 ∷ decimal 20 m) (decimal 20 m)

-- bytes put at a place of a list, where there is room; else the list as it was
unfoldable pub put_at : List ℕ → (at : ℕ) → List ℕ → List ℕ
put_at out at bytes = cond (leb (at + length bytes) (length out)) (take at out ++ (bytes ++ drop (at + length bytes) out)) out

-- the place behind them, or the same place
unfoldable pub place_behind : List ℕ → (at : ℕ) → List ℕ → ℕ
place_behind out at bytes = cond (leb (at + length bytes) (length out)) (at + length bytes) at
