-- Document 01, "Amounts and the table of currencies": the table, a line for each currency number from 0 to 20.
-- Cited by `line_of` and by every call that takes a currency number. Assumes nothing.
use Rattle.std.specs.Prelude.{Bool, not, List, [], ◌∷◌, ℕ, ltb, eqb, get_or}
use Prim.Native.Char.{code}
use Prim.Native.String.{String, [] as empty, ◌∷◌ as ◌then◌}
use Rattle.currency.specs.declared.Currency.{Currency}
use Rattle.currency.specs.declared.Line.{Line}

-- a text's letters, as numbers
abbrev pub letters : String → List ℕ
letters empty = []
letters (c then cs) = code c ∷ letters cs

-- a line: the code, K and k of the rate K / 10^k, and the currency's own scale
abbrev pub line : String → (K k digits : ℕ) → Line
line c K k digits = record { code = letters c; figures = K; places = k; digits = digits }

-- no currency's line
abbrev pub none : Line
none = record { code = 0 ∷ 0 ∷ 0 ∷ []; figures = 0; places = 0; digits = 0 }

-- | No | Code | K | k | Digits |
abbrev pub currencies : List Line
currencies =
    line "EUR" 100000 5 2  -- 0
    ∷ line "BEF" 403399 4 0  -- 1
    ∷ line "DEM" 195583 5 2  -- 2
    ∷ line "ESP" 166386 3 0  -- 3
    ∷ line "FRF" 655957 5 2  -- 4
    ∷ line "IEP" 787564 6 2  -- 5
    ∷ line "ITL" 193627 2 0  -- 6
    ∷ line "LUF" 403399 4 0  -- 7
    ∷ line "NLG" 220371 5 2  -- 8
    ∷ line "ATS" 137603 4 2  -- 9
    ∷ line "PTE" 200482 3 0  -- 10
    ∷ line "FIM" 594573 5 2  -- 11
    ∷ line "GRD" 340750 3 0  -- 12
    ∷ line "SIT" 239640 3 2  -- 13
    ∷ line "CYP" 585274 6 2  -- 14
    ∷ line "MTL" 429300 6 2  -- 15
    ∷ line "SKK" 301260 4 2  -- 16
    ∷ line "EEK" 156466 4 2  -- 17
    ∷ line "LVL" 702804 6 2  -- 18
    ∷ line "LTL" 345280 5 2  -- 19
    ∷ line "HRK" 753450 5 2  -- 20
    ∷ []

-- the line of a currency number; a number that the table doesn't have reads 0
unfoldable pub line_of : Currency → Line
line_of currency = get_or currencies currency.0 none

-- row 4 of the table of refusals, "a currency number is over 20"
abbrev pub last_currency : ℕ
last_currency = 20

abbrev pub unknown : Currency → Bool
unknown currency = ltb last_currency currency.0

-- one currency twice; row 5, "two currencies that must agree differ"
abbrev pub same : (c d : Currency) → Bool
same c d = eqb c.0 d.0

abbrev pub differ : (c d : Currency) → Bool
differ c d = not (same c d)
