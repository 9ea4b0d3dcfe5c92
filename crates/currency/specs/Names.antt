-- The currencies that document 01 names outside its table, by their numbers there. Cited by conversions and by document 01's lines.
-- Assumes nothing.
use Rattle.currency.specs.declared.Currency.{Currency}

abbrev pub EUR : Currency
EUR = record { 0 = 0 }

abbrev pub DEM : Currency
DEM = record { 0 = 2 }

abbrev pub FRF : Currency
FRF = record { 0 = 4 }

abbrev pub IEP : Currency
IEP = record { 0 = 5 }

abbrev pub ITL : Currency
ITL = record { 0 = 6 }
