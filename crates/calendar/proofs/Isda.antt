-- The worked cases of the ISDA 2006 definitions for 30/360 (the bond basis, our American rule) and 30E/360 (the Eurobond basis, our
-- European), as QuantLib's tests of its day counters have them, computed from the definitions. Assumes nothing.
use mathlib.Core.Path.{◌≡◌, refl}
use mathlib.Core.List.{List, [], ◌∷◌, map}
use Prim.Native.Nat.{ℕ}
use Rattle.calendar.specs.declared.Date.{Date}
use Rattle.calendar.specs.DayCount.{american, european, difference, thirty}

-- two dates, and the days between them by each rule
pub record Case : Type 0 where
  pub start : Date
  pub end : Date
  pub bond : ℕ
  pub eurobond : ℕ

abbrev from : (year month day : ℕ) → Date
from year month day = record { year = year; month = month; day = day }

abbrev case : (start end : Date) (bond eurobond : ℕ) → Case
case start end bond eurobond = record { start = start; end = end; bond = bond; eurobond = eurobond }

abbrev pub cases : List Case
cases =
    case (from 2006 8 20) (from 2007 2 20) 180 180
    ∷ case (from 2007 2 20) (from 2007 8 20) 180 180
    ∷ case (from 2007 8 20) (from 2008 2 20) 180 180
    ∷ case (from 2008 2 20) (from 2008 8 20) 180 180
    ∷ case (from 2006 8 31) (from 2007 2 28) 178 178
    ∷ case (from 2007 2 28) (from 2007 8 31) 183 182
    ∷ case (from 2007 8 31) (from 2008 2 29) 179 179
    ∷ case (from 2008 2 29) (from 2008 8 31) 182 181
    ∷ case (from 2008 8 31) (from 2009 2 28) 178 178
    ∷ case (from 2009 2 28) (from 2009 8 31) 183 182
    ∷ case (from 2006 1 31) (from 2006 2 28) 28 28
    ∷ case (from 2006 1 30) (from 2006 2 28) 28 28
    ∷ case (from 2006 2 28) (from 2006 3 3) 5 5
    ∷ case (from 2006 2 14) (from 2006 2 28) 14 14
    ∷ case (from 2006 9 30) (from 2006 10 31) 30 30
    ∷ case (from 2006 10 31) (from 2006 11 28) 28 28
    ∷ case (from 2007 8 31) (from 2008 2 28) 178 178
    ∷ case (from 2008 2 28) (from 2008 8 28) 180 180
    ∷ case (from 2008 2 28) (from 2008 8 30) 182 182
    ∷ case (from 2008 2 28) (from 2008 8 31) 183 182
    ∷ case (from 2007 2 26) (from 2008 2 28) 362 362
    ∷ case (from 2007 2 26) (from 2008 2 29) 363 363
    ∷ case (from 2008 2 29) (from 2009 2 28) 359 359
    ∷ case (from 2008 2 28) (from 2008 3 30) 32 32
    ∷ case (from 2008 2 28) (from 2008 3 31) 33 32
    ∷ []

pub isda : (map (λ c. thirty american c.start c.end) cases ≡ map (λ c. c.bond) cases)
    × (map (λ c. thirty european c.start c.end) cases ≡ map (λ c. c.eurobond) cases)
unfolding difference
isda = (refl, refl)
