-- Document 01, "Two sides of each line": the cases marked *, thirteen, as what the definitions say and what the document prints; that of
-- an interest on basis 3, by document 02's Ask 2. Every answer is written as a list of whole numbers; a refusal would be the empty list.
-- Assumes nothing.
use Rattle.std.specs.Prelude.{List, [], ◌∷◌, ◌++◌, map, ℕ, zero, suc, ℤ, pos, negsuc}
use Rattle.refusal.specs.Rows.{Said, gives, refuses}
use Rattle.rounding.specs.Plain.{plain_said}
use Rattle.currency.specs.declared.Currency.{Currency}
use Rattle.currency.specs.Table.{line_of}
use Rattle.currency.specs.Names.{EUR, DEM, FRF, IEP}
use Rattle.amount.specs.declared.Amount.{Amount}
use Rattle.euro.specs.Conversion.{convert_said}
use Rattle.euro.specs.Steps.{to_euro, step_decimals}
use Rattle.calendar.specs.declared.Date.{Date}
use Rattle.calendar.specs.DaysSaid.{days_said}
use Rattle.interest.specs.Interest.{interest_said}
use Rattle.tax.specs.declared.Split.{Split}
use Rattle.tax.specs.Tax.{from_gross_said}
use Rattle.sharing.specs.Shared.{shared_said}
use Rattle.units.specs.Rule.{Taker, nobody, place, taker_of, totals}

-- the numbers of an answer
abbrev pub numbers : {A : Type 0} → (A → List ℤ) → Said A → List ℤ
numbers of (gives a) = of a
numbers of (refuses number blamed) = []

abbrev one : ℤ → List ℤ
one n = n ∷ []

abbrev coefficient : Amount → List ℤ
coefficient a = a.coefficient ∷ []

abbrev tax_and_net : Split → List ℤ
tax_and_net s = s.tax.coefficient ∷ s.net.coefficient ∷ []

-- an amount by its currency and its coefficient, at two decimals
abbrev amount : Currency → ℤ → Amount
amount currency n = record { currency = currency; scale = 2; coefficient = n }

abbrev converted : (from : Currency) → ℤ → (to : Currency) → List ℤ
converted from n to = numbers coefficient (convert_said (amount from n) to)

abbrev shared : ℤ → List ℕ → List ℤ
shared n ws = numbers (λ shares. shares) (shared_said (amount EUR n) ws 3)

abbrev start : Date
start = record { year = 2023; month = 2; day = 28 }

abbrev end : Date
end = record { year = 2023; month = 3; day = 31 }

-- the place that takes a unit, for the first n units in turn
abbrev place_of : Taker → List ℤ → List ℤ
place_of nobody rest = rest
place_of (place p) rest = pos p ∷ rest

unfoldable pub takers : (ws : List ℕ) (from n : ℕ) → List ℤ
takers ws from zero = []
takers ws from (suc n) = place_of (taker_of ws (totals ws from) (suc from)) (takers ws (suc from) n)

-- what the definitions say of each case
unfoldable pub said : List (List ℤ)
said =
    numbers one (plain_said 6 (negsuc 4) (pos 1) 2)  -- -5/2 HALF_EVEN
    ∷ numbers one (plain_said 3 (negsuc 4) (pos 1) 2)  -- -5/2 FLOOR
    ∷ converted DEM (pos 10000) EUR  -- 100.00 DEM to EUR
    ∷ (to_euro (line_of DEM) step_decimals (pos 10000) ∷ converted DEM (pos 10000) FRF)  -- 100.00 DEM to FRF, with the euro step
    ∷ converted DEM (pos 100000000) EUR  -- 1,000,000.00 DEM to EUR
    ∷ (converted EUR (pos 2) IEP ++ converted IEP (pos 2) EUR)  -- 0.02 EUR to IEP; back
    ∷ (numbers (λ n. pos n ∷ []) (days_said 3 start end) ++ numbers coefficient (interest_said (amount EUR (pos 100000)) 500 3 start end 4))  -- 1000.00 EUR at 500 points, 2023-02-28 to 2023-03-31, HALF_UP, basis 3
    ∷ numbers tax_and_net (from_gross_said (amount EUR (pos 100)) 200000 4)  -- Gross 1.00 at 200,000, HALF_UP: tax, net
    ∷ shared (pos 100) (1 ∷ 1 ∷ 1 ∷ [])  -- 100 by 1, 1, 1
    ∷ shared (pos 100) (3 ∷ 3 ∷ 1 ∷ [])  -- 100 by 3, 3, 1
    ∷ shared (negsuc 99) (3 ∷ 3 ∷ 1 ∷ [])  -- -100 by 3, 3, 1
    ∷ takers (5 ∷ 3 ∷ 2 ∷ []) 0 10  -- Book 5, 3, 2 from empty: units 1 to 10
    ∷ map pos (totals (5 ∷ 3 ∷ 2 ∷ []) 9)  -- after posting 7 and 5 and refunding 3: totals
    ∷ []

-- what document 01 prints
abbrev pub printed : List (List ℤ)
printed =
    (negsuc 1 ∷ [])  -- -2
    ∷ (negsuc 2 ∷ [])  -- -3
    ∷ (pos 5113 ∷ [])  -- 51.13
    ∷ (pos 51129 ∷ pos 33538 ∷ [])  -- 335.38 (euro step 51.129)
    ∷ (pos 51129188 ∷ [])  -- 511,291.88
    ∷ (pos 2 ∷ pos 3 ∷ [])  -- 0.02; 0.03
    ∷ (pos 32 ∷ pos 444 ∷ [])  -- counts 32, 4.44
    ∷ (pos 17 ∷ pos 83 ∷ [])  -- tax 0.17, net 0.83
    ∷ (pos 34 ∷ pos 33 ∷ pos 33 ∷ [])  -- 34, 33, 33
    ∷ (pos 43 ∷ pos 43 ∷ pos 14 ∷ [])  -- 43, 43, 14
    ∷ (negsuc 42 ∷ negsuc 42 ∷ negsuc 13 ∷ [])  -- -43, -43, -14
    ∷ (pos 0 ∷ pos 1 ∷ pos 0 ∷ pos 2 ∷ pos 0 ∷ pos 1 ∷ pos 0 ∷ pos 1 ∷ pos 0 ∷ pos 2 ∷ [])  -- 0, 1, 0, 2, 0, 1, 0, 1, 0, 2
    ∷ (pos 5 ∷ pos 3 ∷ pos 1 ∷ [])  -- 5, 3, 1
    ∷ []
