-- Document 01, "Refusal numbers": the table's number for each refusal, and the date that it blames.
-- Cited by `Refusal::number` and `Refusal::blamed`, and by every promise through `refuses`. Assumes nothing.
use Rattle.std.specs.Prelude.{ℕ, Result, Ok, Err}
use Rattle.refusal.specs.declared.Blamed.{Blamed}
use Rattle.refusal.specs.declared.Blamed.TheVariants.{First, Second}
use Rattle.refusal.specs.declared.Refusal.{Refusal}
use Rattle.refusal.specs.declared.Refusal.TheVariants.{Mode, Scale, Magnitude, Unknown, Differ, Rate, Date, Days, Weights, Negative, Room, Refund, Limit, Malformed, NoNet, NoNumber, Newer}

-- "which of the two dates it blames": the first is 1, the second 2
abbrev pub place_of : Blamed → ℕ
place_of First = 1
place_of Second = 2

abbrev pub number_of : Refusal → ℕ
number_of Mode = 1
number_of Scale = 2
number_of Magnitude = 3
number_of Unknown = 4
number_of Differ = 5
number_of Rate = 6
number_of (Date d) = 7
number_of Days = 8
number_of Weights = 9
number_of Negative = 10
number_of Room = 11
number_of Refund = 12
number_of Limit = 13
number_of Malformed = 14
number_of NoNet = 15
number_of NoNumber = 16
number_of Newer = 17

-- "a refusal of a date also says which of the two dates it blames": 0 for every other refusal
abbrev pub blamed_of : Refusal → ℕ
blamed_of Mode = 0
blamed_of Scale = 0
blamed_of Magnitude = 0
blamed_of Unknown = 0
blamed_of Differ = 0
blamed_of Rate = 0
blamed_of (Date d) = place_of d
blamed_of Days = 0
blamed_of Weights = 0
blamed_of Negative = 0
blamed_of Room = 0
blamed_of Refund = 0
blamed_of Limit = 0
blamed_of Malformed = 0
blamed_of NoNet = 0
blamed_of NoNumber = 0
blamed_of Newer = 0

-- an answer by its refusal's number and the date that it blames: both 0 where it is a value
abbrev pub number_in : {A : Type 0} → Result A Refusal → ℕ
number_in (Ok value) = 0
number_in (Err r) = number_of r

abbrev pub blamed_in : {A : Type 0} → Result A Refusal → ℕ
blamed_in (Ok value) = 0
blamed_in (Err r) = blamed_of r
