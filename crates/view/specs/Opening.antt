-- Document 02, Ask 11, "It opens on exactly the files of Ask 3": where a view of some bytes begins. Cited by `open_at` and `open_any_at`. Assumes nothing.
use Rattle.std.specs.Prelude.{List, ℕ}
use Rattle.refusal.specs.Rows.{Said, gives, first_row}
use Rattle.statement.specs.Reading.{read_rows, summary_of, any_rows, summary_of_any}
use Rattle.statement.specs.declared.SummaryOfAny.{SummaryOfAny}

-- the first record's start, by the rows of Ask 3's reader
unfoldable pub open_said : List ℕ → Said ℕ
open_said bytes = first_row (read_rows bytes) (gives (summary_of bytes).first)

unfoldable pub open_any_said : List ℕ → Said (ℕ × ℕ)
open_any_said bytes = let s : SummaryOfAny = summary_of_any bytes in first_row (any_rows bytes) (gives (s.version, s.summary.first))
