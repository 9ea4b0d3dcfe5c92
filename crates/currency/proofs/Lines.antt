-- Document 01's table of currencies read by its columns, from number 0 to number 20: the codes, K, k and the digits. Assumes nothing.
use mathlib.Core.Path.{◌≡◌, refl}
use mathlib.Core.List.{List, [], ◌∷◌, map}
use Rattle.currency.specs.declared.Line.{Line}
use Rattle.currency.specs.Table.{letters, currencies}

-- a column of the table
abbrev column : {A : Type 0} → (Line → A) → List A
column entry = map entry currencies

pub codes :
    column (λ l. l.code)
    ≡ map letters
    ("EUR" ∷ "BEF" ∷ "DEM" ∷ "ESP" ∷ "FRF" ∷ "IEP" ∷ "ITL" ∷ "LUF" ∷ "NLG" ∷ "ATS" ∷ "PTE" ∷ "FIM" ∷ "GRD" ∷ "SIT" ∷ "CYP" ∷ "MTL" ∷ "SKK" ∷ "EEK" ∷ "LVL" ∷ "LTL" ∷ "HRK" ∷ [])
codes = refl

pub figures :
    column (λ l. l.figures)
    ≡ 100000 ∷ 403399 ∷ 195583 ∷ 166386 ∷ 655957 ∷ 787564 ∷ 193627 ∷ 403399 ∷ 220371 ∷ 137603 ∷ 200482 ∷ 594573 ∷ 340750 ∷ 239640 ∷ 585274 ∷ 429300 ∷ 301260 ∷ 156466 ∷ 702804 ∷ 345280 ∷ 753450 ∷ []
figures = refl

pub places : column (λ l. l.places) ≡ 5 ∷ 4 ∷ 5 ∷ 3 ∷ 5 ∷ 6 ∷ 2 ∷ 4 ∷ 5 ∷ 4 ∷ 3 ∷ 5 ∷ 3 ∷ 3 ∷ 6 ∷ 6 ∷ 4 ∷ 4 ∷ 6 ∷ 5 ∷ 5 ∷ []
places = refl

pub digits : column (λ l. l.digits) ≡ 2 ∷ 0 ∷ 2 ∷ 0 ∷ 2 ∷ 2 ∷ 0 ∷ 0 ∷ 2 ∷ 2 ∷ 0 ∷ 2 ∷ 0 ∷ 2 ∷ 2 ∷ 2 ∷ 2 ∷ 2 ∷ 2 ∷ 2 ∷ 2 ∷ []
digits = refl
