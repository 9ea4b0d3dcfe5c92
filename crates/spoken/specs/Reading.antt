-- The words of a line from a place on, heard one after another, and the numbers that they are in a list. Cited by
-- `read_words`. Assumes nothing.
use Rattle.std.specs.Prelude.{Option, Some, None, is_some, false, cond, ◌||◌, List, ℕ, zero, suc, ltb, length, set}
use Rattle.lines.specs.Lines.{word_from}
use Rattle.lines.specs.declared.Number.{Number}
use Rattle.spoken.specs.declared.Form.{Form}
use Rattle.spoken.specs.declared.Heard.{Heard}
use Rattle.spoken.specs.declared.Step.{Step}
use Rattle.spoken.specs.declared.Spoken.{Spoken}
use Rattle.spoken.specs.Hearing.{more, step_of}

-- a word's number at a place of a list, or two from that place on, where the list has them
abbrev pub put_from : Option Number → (last : Number) (place : ℕ) → List Number → List Number
put_from None last place numbers = set numbers place last
put_from (Some front) last place numbers = set (set numbers place front) (more place 1) last

abbrev pub put_numbers : Step → (place : ℕ) → List Number → List Number
put_numbers step place numbers = put_from step.front step.last place numbers

-- where reading stands, what was heard, and the list
pub record Read : Type 0 where
  pub at : ℕ
  pub heard : Heard
  pub numbers : List Number

-- nothing is heard
abbrev pub silence : Heard
silence = record { count = 0; awaited = None; coded = false; wrong = false; refused = None }

-- one word more, where there is one
unfoldable pub turn_of : List ℕ → Form → Read → Read
turn_of line form r =
    let word = word_from line r.at in
    let step = step_of line word form r.heard in
    cond (ltb word.start word.end)
    (record { at = word.end; heard = step.next; numbers = put_numbers step r.heard.count r.numbers })
    r

unfoldable pub turns : List ℕ → Form → Read → (words : ℕ) → Read
turns line form r zero = r
turns line form r (suc words) = turn_of line form (turns line form r words)

-- all words: a line has at most as many as bytes
abbrev pub read_of : List ℕ → (from : ℕ) → Form → List Number → Read
read_of line from form numbers = turns line form (record { at = from; heard = silence; numbers = numbers }) (length line)

-- "The whole line must be understood": no word is wrong, and no code waits for its text
unfoldable pub spoken_of : Heard → Spoken
spoken_of h = record { given = cond (h.wrong || is_some h.awaited) None (Some h.count); coded = h.coded; refused = h.refused }
