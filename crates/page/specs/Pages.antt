-- A page: a buffer, and the text that stands in front of it. Cited by the promises of `Page`. Assumes nothing.
use Rattle.std.specs.Prelude.{List, ℕ}
use Rattle.lines.specs.Texts.{put_at, place_behind}

-- bytes put behind what stands there, where there is room for all of them, and the place behind the text then
abbrev pub put_on : List ℕ → ℕ → List ℕ → List ℕ × ℕ
put_on bytes at text = (put_at bytes at text, place_behind bytes at text)

-- and words with a number behind them: the number where the words ended, whether there was room for them or not
abbrev pub put_named : List ℕ → ℕ → (words : List ℕ) → (n : List ℕ) → List ℕ × ℕ
put_named bytes at words n = put_on (put_at bytes at words) (place_behind bytes at words) n
