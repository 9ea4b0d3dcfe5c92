-- What C is answered of a statement file: the place behind its last byte, and what it says of itself; noughts where the call is refused. Cited by
-- the promises on statements. Assumes nothing.
use Rattle.std.specs.Prelude.{ℕ, pos}
use Rattle.refusal.specs.Rows.{Said, gives, refuses}
use Rattle.statement.specs.declared.Summary.{Summary}
use Rattle.flat.specs.declared.MkbEnd.{MkbEnd}
use Rattle.flat.specs.declared.MkbStatement.{MkbStatement}

abbrev pub end_of : Said ℕ → MkbEnd
end_of (gives end) = record { refusal = 0; blamed = 0; end = end }
end_of (refuses number blamed) = record { refusal = number; blamed = blamed; end = 0 }

abbrev pub statement_of : Said Summary → MkbStatement
statement_of (gives s) = record { refusal = 0; blamed = 0; first = s.first; count = s.count; sum = s.sum }
statement_of (refuses number blamed) = record { refusal = number; blamed = blamed; first = 0; count = 0; sum = pos 0 }
