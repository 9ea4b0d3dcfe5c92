-- Document 01, "Who gets unit number t", as a program looks for the taker: due numbers in a list, and a scan of the sixteen places for the one
-- that is due first. Cited by `due_number`, `due_numbers` and `first_due`. Assumes nothing.
use Rattle.std.specs.Prelude.{Bool, false, cond, List, ℕ, ltb, get_or}
use Rattle.whole.specs.Lists.{filled}
use Rattle.units.specs.Rule.{may_take, due, Taker, nobody, place, best_of}
use Rattle.running.specs.Limits.{partners, zeros}

-- beyond every due number of weights that keep their rule
abbrev pub late : ℕ
late = 1000000000

-- the due number, where it is before that
unfoldable pub due_by : (W w a : ℕ) → ℕ
due_by W w a = cond (ltb (due W w a) late) (due W w a) late

-- of each place, with the units that it has
unfoldable pub dues_by : (ws : List ℕ) (W : ℕ) (held : List ℕ) → List ℕ
dues_by ws W held = filled 0 (λ i. due_by W (get_or ws i 0) (get_or held i 0)) partners zeros

-- place i may take unit t, and is due before `late`
abbrev pub may_now : (ws : List ℕ) (W : ℕ) (held dues : List ℕ) (t : ℕ) → ℕ → Bool
may_now ws W held dues t i = cond (ltb (get_or dues i 0) late) (may_take W t (get_or ws i 0) (get_or held i 0)) false

-- the smallest due number of those, ties to the lower place
unfoldable pub first_due : (ws : List ℕ) (W : ℕ) (held dues : List ℕ) (t : ℕ) → Taker
first_due ws W held dues t = best_of (may_now ws W held dues t) (λ i. get_or dues i 0) partners

-- a place as a number: 16 is nobody
abbrev pub number_of : Taker → ℕ
number_of nobody = partners
number_of (place p) = p
