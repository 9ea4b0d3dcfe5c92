-- What C is answered of a view: where it begins, noughts where the call is refused; and at a place the place of what comes next, and what is handed
-- out, noughts where the view has ended. Cited by the promises on views. Assumes nothing.
use Rattle.std.specs.Prelude.{true, false, ℕ, pos, Option, Some, None}
use Rattle.refusal.specs.Rows.{Said, gives, refuses}
use Rattle.statement.specs.declared.Payout.{Payout}
use Rattle.flat.specs.declared.MkbFirst.{MkbFirst}
use Rattle.flat.specs.declared.MkbStep.{MkbStep}

abbrev pub first_of : Said ℕ → MkbFirst
first_of (gives first) = record { refusal = 0; blamed = 0; first = first }
first_of (refuses number blamed) = record { refusal = number; blamed = blamed; first = 0 }

abbrev pub step_of : Option Payout → (next : ℕ) → MkbStep
step_of (Some p) next = record { next = next; ended = false; place = p.place; currency = p.currency; coefficient = p.coefficient }
step_of None next = record { next = next; ended = true; place = 0; currency = 0; coefficient = pos 0 }
