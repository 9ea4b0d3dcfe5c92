-- The currency of a code of three letters, by document 01's table of currencies; 255 for a code that the table hasn't. Cited by `currency_of`.
-- Assumes nothing.
use Rattle.std.specs.Prelude.{Bool, cond, ◌&&◌, List, [], ◌∷◌, ℕ, suc, eqb, length, get_or}
use Rattle.currency.specs.declared.Currency.{Currency}
use Rattle.currency.specs.declared.Line.{Line}
use Rattle.currency.specs.Table.{currencies}

-- the number that no currency has
abbrev pub no_currency : ℕ
no_currency = 255

-- a line's code is these three letters
abbrev pub has_code : (a b c : ℕ) → Line → Bool
has_code a b c line = eqb (get_or line.code 0 0) a && (eqb (get_or line.code 1 0) b && eqb (get_or line.code 2 0) c)

-- the number of the first line that has the code, counted from one on
unfoldable pub number_from : (a b c : ℕ) → ℕ → List Line → ℕ
number_from a b c n [] = no_currency
number_from a b c n (line ∷ lines) = cond (has_code a b c line) n (number_from a b c (suc n) lines)

abbrev pub number_of : (a b c : ℕ) → ℕ
number_of a b c = number_from a b c 0 currencies

-- the currency of a code
unfoldable pub currency_of : List ℕ → Currency
currency_of code = record { 0 = cond (eqb (length code) 3) (number_of (get_or code 0 0) (get_or code 1 0) (get_or code 2 0)) no_currency }
