-- A row of doubles as C gives it, and what C is answered for one and for an export. Cited by `mkb_row` and `mkb_export`. Assumes nothing.
use Rattle.std.specs.Prelude.{false, pos, Float}
use Rattle.std.specs.Float.{fin}
use Rattle.refusal.specs.Rows.{Said, gives, refuses}
use Rattle.doubles.specs.declared.Row.{Row}
use Rattle.doubles.specs.declared.Amounts.{Amounts}
use Rattle.flat.specs.declared.MkbColumns.{MkbColumns}
use Rattle.flat.specs.declared.MkbRowAnswer.{MkbRowAnswer}
use Rattle.flat.specs.declared.MkbDouble.{MkbDouble}
use Rattle.flat.specs.Answers.{amount_of, no_amount}

abbrev pub row_from : MkbColumns → Row
row_from r = record { net = r.net; tax = r.tax }

abbrev pub row_answer_of : Said Amounts → MkbRowAnswer
row_answer_of (gives a) = record { refusal = 0; blamed = 0; net = amount_of a.net; tax = amount_of a.tax }
row_answer_of (refuses number blamed) = record { refusal = number; blamed = blamed; net = no_amount; tax = no_amount }

-- 0.0 where the call is refused
abbrev pub double_of : Said Float → MkbDouble
double_of (gives x) = record { refusal = 0; blamed = 0; value = x }
double_of (refuses number blamed) = record { refusal = number; blamed = blamed; value = fin false 0 (pos 0) }
