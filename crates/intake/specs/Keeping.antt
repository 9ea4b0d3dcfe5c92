-- Bytes that are kept when more come. Cited by `keep`. Assumes nothing.
use Rattle.std.specs.Prelude.{List, ◌++◌, ℕ, ◌-◌, min, length, drop}
use Rattle.std.proofs.Math.Seq.{slice}

-- how many bytes stand from one place up to another: a place beyond the bytes is their end, and a first beyond the last leaves none
abbrev pub kept_count : List ℕ → (from to : ℕ) → ℕ
kept_count text from to = min to (length text) - from

-- they are moved to the front, and behind them the bytes are as they stood
unfoldable pub kept_of : List ℕ → (from to : ℕ) → List ℕ
kept_of text from to = slice from to text ++ drop (kept_count text from to) text
