-- What C is answered of a statement of either version: what it says of itself, noughts where the call is refused; and at a place of its bytes the place of
-- what comes next, and the record with its reason, noughts where the view has ended. Cited by the promises on both versions. Assumes nothing.
use Rattle.std.specs.Prelude.{true, false, ℕ, pos, Option, Some, None}
use Rattle.refusal.specs.Rows.{Said, gives, refuses}
use Rattle.statement.specs.declared.SummaryOfAny.{SummaryOfAny}
use Rattle.statement.specs.declared.Reasoned.{Reasoned}
use Rattle.flat.specs.declared.MkbAnyStatement.{MkbAnyStatement}
use Rattle.flat.specs.declared.MkbAnyStep.{MkbAnyStep}

abbrev pub any_statement_of : Said SummaryOfAny → MkbAnyStatement
any_statement_of (gives s) = record { refusal = 0; blamed = 0; version = s.version; first = s.summary.first; count = s.summary.count; sum = s.summary.sum }
any_statement_of (refuses number blamed) = record { refusal = number; blamed = blamed; version = 0; first = 0; count = 0; sum = pos 0 }

abbrev pub any_step_of : Option Reasoned → (next : ℕ) → MkbAnyStep
any_step_of (Some r) next =
    record { next = next; ended = false; place = r.payout.place; currency = r.payout.currency; reason = r.reason; coefficient = r.payout.coefficient }
any_step_of None next = record { next = next; ended = true; place = 0; currency = 0; reason = 0; coefficient = pos 0 }
