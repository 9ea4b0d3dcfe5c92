-- A lent output after a call that fills a place for each weight. Document 01: "Places of the output past the number of weights are untouched",
-- "A refusal leaves every place of a lent output as it stood". Cited by every call that takes a lent list of weights. Assumes nothing.
use Rattle.std.specs.Prelude.{List, ◌++◌, length, drop}
use Rattle.refusal.specs.Rows.{Said, gives, refuses}

unfoldable pub out_after : {A : Type 0} → Said (List A) → List A → List A
out_after (gives values) out = values ++ drop (length values) out
out_after (refuses number blamed) out = out
