-- What the bytes that are held begin with: a line, what was left of a line that is too long, a line whose end is yet to come, or nothing.
-- The places of a cut are those of its bytes that are still held. Cited by `next_line`. Assumes nothing.
use Rattle.std.specs.Prelude.{Bool, true, false, cond, ◌&&◌, ◌||◌, List, ℕ, ◌+◌, ◌-◌, min, ltb, eqb, length, get_or}
use Rattle.lines.specs.Lines.{line_end}
use Rattle.intake.specs.declared.Intake.{Intake}
use Rattle.intake.specs.declared.Cut.{Cut}
use Rattle.intake.specs.declared.Found.TheVariants.{Line, Long, More, Nothing}

-- "A line of over 4,000 bytes is answered `?`, whatever it holds"
abbrev pub longest : ℕ
longest = 4000

-- "a carriage return right before that is no part of it": where a line stops that ends at a place
unfoldable pub stop_of : List ℕ → (from end : ℕ) → ℕ
stop_of text from end = cond (ltb from end && eqb (get_or text (end - 1) 0) 13) (end - 1) end

-- the line that ends at a place, with or without a newline; the next one is read from another on
unfoldable pub line_of : List ℕ → Intake → (end next : ℕ) (unended : Bool) → Cut
line_of text at end next unended =
    let behind : Intake = record { from = next; skipping = false; ended = at.ended } in
    let stop = stop_of text at.from end in
    cond (at.skipping || ltb longest (stop - at.from))
    (record { found = Long; start = at.from; end = end; unended = unended; next = behind })
    (record { found = Line; start = at.from; end = stop; unended = unended; next = behind })

-- the last line of the input where it has no newline; no line where no byte is left of it
unfoldable pub last_of : List ℕ → Intake → Cut
last_of text at =
    cond (at.skipping || ltb at.from (length text))
    (line_of text at (length text) (length text) true)
    (record { found = Nothing; start = length text; end = length text; unended = false; next = at })

-- bytes without a newline are kept until more come; where they are too many for a line, even if the last is a carriage return, they and
-- all up to the newline are dropped
unfoldable pub unended_of : Intake → (end : ℕ) → Cut
unended_of at end =
    record {
      found = More;
      start = at.from;
      end = end;
      unended = false;
      next = cond (at.skipping || ltb (longest + 1) (end - at.from)) (record { from = end; skipping = true; ended = at.ended }) at;
    }

-- "A line ends at a newline or at the end of the input"
unfoldable pub cut_from : List ℕ → Intake → Cut
cut_from text at =
    cond (ltb (line_end text at.from) (length text))
    (line_of text at (line_end text at.from) (line_end text at.from + 1) false)
    (cond at.ended (last_of text at) (unended_of at (length text)))

-- reading that stands beyond the bytes stands at their end
unfoldable pub standing_of : List ℕ → Intake → Intake
standing_of text at = record { from = min at.from (length text); skipping = at.skipping; ended = at.ended }

unfoldable pub cut_of : List ℕ → Intake → Cut
cut_of text at = cut_from text (standing_of text at)
