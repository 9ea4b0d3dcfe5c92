-- Where a program reads from. Cited by `open_source`; what a stream gives no contract can say. Assumes nothing.
use Rattle.std.specs.Prelude.{ℕ, Result, Ok, Err}

-- the status that the program ends with where it can't read: 3 where it has a stream, "reading or writing failed"
abbrev pub end_of : {S : Type 0} → Result S ℕ → ℕ
end_of (Ok stream) = 3
end_of (Err status) = status
