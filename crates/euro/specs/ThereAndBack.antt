-- Document 02, Ask 8, "There and back": what is said of a euro amount that was converted to an old unit and back. Cited by the theorems
-- `there_and_back` and `comes_back`. Assumes nothing.
use Rattle.std.specs.Prelude.{ℕ, ◌+◌, ◌*◌, ◌^◌, ◌<◌, ◌≤◌, ◌-ℤ◌}
use Rattle.whole.specs.Whole.{magnitude_of}
use Rattle.currency.specs.declared.Line.{Line}
use Rattle.amount.specs.declared.Amount.{Amount}
use Rattle.euro.specs.Steps.{cents}

-- "with s the old unit's digits": K x 10^s, and 10^(2 + k)
abbrev pub unit : Line → ℕ
unit l = l.figures * 10 ^ l.digits

abbrev pub parts : Line → ℕ
parts l = 10 ^ (l.places + cents)

-- "the change in cents, taken without its sign"
abbrev pub change : (given returned : Amount) → ℕ
change given returned = magnitude_of (returned.coefficient -ℤ given.coefficient)

-- "2 x K x 10^s times the change .. is at most K x 10^s + 10^(2 + k)"
abbrev pub Near : Line → (given returned : Amount) → Type 0
Near l given returned = 2 * unit l * change given returned ≤ unit l + parts l

-- "Where 10^(2 + k) is less than K x 10^s": a cent is worth more than the old unit's smallest part
abbrev pub Finer : Line → Type 0
Finer l = parts l < unit l
