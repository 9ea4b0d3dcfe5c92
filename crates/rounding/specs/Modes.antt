-- Document 01, "Seven modes": the mode numbers, and each rule as one line: does the magnitude rise by one?
-- Cited by `Rule`, made of a mode number, by `rises` and every promise that rounds. Assumes nothing.
use Rattle.std.specs.Prelude.{Bool, true, false, not, cond, ◌&&◌, List, [], ◌∷◌, ℕ, ltb, get_or, Result, Ok, Err}
use Rattle.refusal.specs.declared.Refusal.TheVariants.{Mode}
use Rattle.rounding.specs.declared.Rule.{Rule}
use Rattle.rounding.specs.declared.Rule.TheVariants.{Up, Down, Ceiling, Floor, HalfUp, HalfDown, HalfEven}
use Rattle.rounding.specs.declared.Rest.{Rest}
use Rattle.refusal.specs.declared.Refusal.{Refusal}
use Rattle.rounding.specs.declared.Rest.TheVariants.{Exact, Below, Half, Above}

-- "Mode numbers: 0 UP (away from zero), 1 DOWN (toward zero), 2 CEILING, 3 FLOOR, 4 HALF_UP, 5 HALF_DOWN, 6 HALF_EVEN"
abbrev pub rules : List Rule
rules = Up ∷ Down ∷ Ceiling ∷ Floor ∷ HalfUp ∷ HalfDown ∷ HalfEven ∷ []

unfoldable pub rule_of : ℕ → Rule
rule_of mode = get_or rules mode HalfEven

-- the table's row 1, "the mode isn't 0 to 6"
unfoldable pub bad_mode : ℕ → Bool
bad_mode mode = ltb 6 mode

unfoldable pub choice_of : ℕ → Result Rule Refusal
unfolding rule_of bad_mode
choice_of mode = cond (bad_mode mode) (Err Mode) (Ok (rule_of mode))

-- what is left of a division, against the half of its divisor: something, at least the half, more than the half
abbrev pub some_rest : Rest → Bool
some_rest Exact = false
some_rest Below = true
some_rest Half = true
some_rest Above = true

abbrev pub from_half : Rest → Bool
from_half Exact = false
from_half Below = false
from_half Half = true
from_half Above = true

abbrev pub past_half : Rest → Bool
past_half Exact = false
past_half Below = false
past_half Half = false
past_half Above = true

-- a half to the even number: an odd quotient rises from the half on, an even one past it
abbrev pub to_even : (odd : Bool) → Rest → Bool
to_even true rest = from_half rest
to_even false rest = past_half rest

-- does the magnitude rise by one: from the rule, whether the number is negative, whether the quotient is odd, and the rest
abbrev pub rises_by : Rule → (negative odd : Bool) → Rest → Bool
rises_by Up negative odd rest = some_rest rest
rises_by Down negative odd rest = false
rises_by Ceiling negative odd rest = not negative && some_rest rest
rises_by Floor negative odd rest = negative && some_rest rest
rises_by HalfUp negative odd rest = from_half rest
rises_by HalfDown negative odd rest = past_half rest
rises_by HalfEven negative odd rest = to_even odd rest
