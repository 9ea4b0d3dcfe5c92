-- What C is answered: a value's fields behind the number 0, or document 01's number, the date that it blames and noughts. Cited by every
-- promise. Assumes nothing.
use Rattle.std.specs.Prelude.{ℕ, ℤ, pos, negsuc}
use Rattle.refusal.specs.Rows.{Said, gives, refuses}
use Rattle.amount.specs.declared.Amount.{Amount}
use Rattle.currency.specs.declared.Line.{Line}
use Rattle.std.specs.declared.cmp.Ordering.{Ordering}
use Rattle.std.specs.declared.cmp.Ordering.TheVariants.{Less, Equal, Greater}
use Rattle.tax.specs.declared.Split.{Split}
use Rattle.flat.specs.declared.MkbAmount.{MkbAmount}
use Rattle.flat.specs.declared.MkbLine.{MkbLine}
use Rattle.flat.specs.declared.MkbWhole.{MkbWhole}
use Rattle.flat.specs.declared.MkbAmountAnswer.{MkbAmountAnswer}
use Rattle.flat.specs.declared.MkbOrderAnswer.{MkbOrderAnswer}
use Rattle.flat.specs.declared.MkbDays.{MkbDays}
use Rattle.flat.specs.declared.MkbSplit.{MkbSplit}
use Rattle.flat.specs.declared.MkbWritten.{MkbWritten}

-- the number of what a call says, and the date that is blamed: both 0 where the call is accepted
abbrev pub refusal_of : {A : Type 0} → Said A → ℕ
refusal_of (gives value) = 0
refusal_of (refuses number blamed) = number

abbrev pub blamed_of : {A : Type 0} → Said A → ℕ
blamed_of (gives value) = 0
blamed_of (refuses number blamed) = blamed

-- a plain quotient
abbrev pub whole_of : Said ℤ → MkbWhole
whole_of (gives n) = record { refusal = 0; blamed = 0; value = n }
whole_of (refuses number blamed) = record { refusal = number; blamed = blamed; value = pos 0 }

-- an amount, field for field, and the one whose every field is 0
abbrev pub amount_of : Amount → MkbAmount
amount_of a = record { currency = pos a.currency.0; scale = pos a.scale; coefficient = a.coefficient }

abbrev pub no_amount : MkbAmount
no_amount = record { currency = pos 0; scale = pos 0; coefficient = pos 0 }

abbrev pub amount_answer_of : Said Amount → MkbAmountAnswer
amount_answer_of (gives a) = record { refusal = 0; blamed = 0; amount = amount_of a }
amount_answer_of (refuses number blamed) = record { refusal = number; blamed = blamed; amount = no_amount }

-- an order: -1, 0 or 1
abbrev pub sign_of : Ordering → ℤ
sign_of Less = negsuc 0
sign_of Equal = pos 0
sign_of Greater = pos 1

abbrev pub order_of : Said Ordering → MkbOrderAnswer
order_of (gives o) = record { refusal = 0; blamed = 0; order = sign_of o }
order_of (refuses number blamed) = record { refusal = number; blamed = blamed; order = pos 0 }

-- a day count
abbrev pub days_of : Said ℕ → MkbDays
days_of (gives n) = record { refusal = 0; blamed = 0; days = n }
days_of (refuses number blamed) = record { refusal = number; blamed = blamed; days = 0 }

-- so many places of a lent buffer
abbrev pub written_of : Said ℕ → MkbWritten
written_of (gives n) = record { refusal = 0; blamed = 0; length = n }
written_of (refuses number blamed) = record { refusal = number; blamed = blamed; length = 0 }

-- a price taken apart
abbrev pub split_of : Said Split → MkbSplit
split_of (gives s) = record { refusal = 0; blamed = 0; net = amount_of s.net; tax = amount_of s.tax; gross = amount_of s.gross }
split_of (refuses number blamed) = record { refusal = number; blamed = blamed; net = no_amount; tax = no_amount; gross = no_amount }

-- a line of the table of currencies
abbrev pub line_flat : Line → MkbLine
line_flat l = record { code = l.code; places = l.places; digits = l.digits; figures = l.figures }
