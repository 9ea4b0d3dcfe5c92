-- An answer of `write`, flattened field by field, is what its promise says. Assumes nothing.
use Rattle.std.specs.Prelude.{Result, Ok, Err}
use mathlib.Core.Path.{◌≡◌, refl, ◌∙◌, ap}
use Prim.Native.Nat.{ℕ}
use Rattle.refusal.specs.Number.{number_in, blamed_in}
use Rattle.refusal.specs.declared.Refusal.{Refusal}
use Rattle.refusal.specs.Rows.{Said, means}
use Rattle.flat.specs.Statements.{end_of}
use Rattle.flat.specs.declared.MkbEnd.{MkbEnd}

-- the end that an answer has, 0 where it is refused, and the answer with it
abbrev end_in : Result ℕ Refusal → ℕ
end_in (Ok end) = end
end_in (Err refusal) = 0

abbrev pub end_flat : Result ℕ Refusal → MkbEnd
end_flat r = record { refusal = number_in r; blamed = blamed_in r; end = end_in r }

same : (r : Result ℕ Refusal) → end_flat r ≡ end_of (means r)
same (Ok end) = refl
same (Err refusal) = refl

pub end_said : (r : Result ℕ Refusal) (said : Said ℕ) → means r ≡ said → end_flat r ≡ end_of said
end_said r said is = same r ∙ ap end_of is
