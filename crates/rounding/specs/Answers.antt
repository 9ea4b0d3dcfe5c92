-- The seven rules as numbers: a bit for each question that a rule may be asked. No public promise cites it. Assumes nothing.
use Rattle.std.specs.Prelude.{ℕ}
use Rattle.rounding.specs.declared.Rule.{Rule}
use Rattle.rounding.specs.declared.Rule.TheVariants.{Up, Down, Ceiling, Floor, HalfUp, HalfDown, HalfEven}
use Rattle.rounding.specs.declared.Rest.{Rest}
use Rattle.rounding.specs.declared.Rest.TheVariants.{Exact, Below, Half, Above}

abbrev pub number_of : Rest → ℕ
number_of Exact = 0
number_of Below = 1
number_of Half = 2
number_of Above = 3

abbrev pub answers_of : Rule → ℕ
answers_of Up = 61166
answers_of Down = 0
answers_of Ceiling = 238
answers_of Floor = 60928
answers_of HalfUp = 52428
answers_of HalfDown = 34952
answers_of HalfEven = 51400
