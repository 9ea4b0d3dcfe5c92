-- The whole number that a word of a line is. Cited by `read_number`. Assumes nothing.
use Rattle.std.specs.Prelude.{Option, None, cond, ◌&&◌, List, ℕ, ◌-◌, leb, length, take, drop}
use Rattle.lines.specs.Lines.{number_of}
use Rattle.lines.specs.declared.Word.{Word}
use Rattle.lines.specs.declared.Number.{Number}

-- the number in the line's bytes from the word's start up to its end; a word outside the line is nothing
unfoldable pub number_at : List ℕ → Word → Option Number
number_at line word =
    cond (leb word.start word.end && leb word.end (length line))
    (number_of (take (word.end - word.start) (drop word.start line)))
    None
